-- What was read of an input, and what it says of the whole.
use Rattle.std.proofs.Common.{◌≡◌, ℕ, ◌<◌, ◌≤◌, inl, inr, Bool, true, false, ltb, List, [], ◌++◌, length, take, Some, None, Option, IfSome, Ok, Err, Result, OnOk, refl, ap, ◌∙◌, subst, arith}
use Rattle.std.proofs.lemmas.Bool.{ltb-true, ltb-false}
use Rattle.std.proofs.lemmas.List.{take_all, length-take}
use Rattle.std.specs.Option.{option_map}
use Rattle.rules.specs.declared.figures.PointFigures.{PointFigures}
use Rattle.rules.specs.Book.{Book}
use Rattle.rules.specs.Law.{Stock}
use Rattle.runfile.specs.Run.{Request}
use Rattle.answering.specs.Answers.{Answered, AnsweredInto}

-- at most n bytes of an input
taken_of : (o : Option (List ℕ)) (n : ℕ) (old new : List ℕ) → old ≡ [] → IfSome (option_map (take n) o) (λ xs. new ≡ old ++ xs)
    → IfSome o (λ text. new ≡ take n text)
taken_of None n old new e h = tt
taken_of (Some text) n old new e h = h ∙ ap (λ (t : List ℕ). t ++ take n text) e

pub taken : {R : Type 0} (remaining : R → Option (List ℕ)) (input inner : R) (limit n : ℕ) (old new : List ℕ) → inner ≡ input → limit ≡ n → old ≡ []
    → IfSome (option_map (take limit) (remaining inner)) (λ xs. new ≡ old ++ xs) → IfSome (remaining input) (λ text. new ≡ take n text)
taken remaining input inner limit n old new same bound empty h =
    taken_of (remaining input) n old new empty
    (subst (λ r. IfSome (option_map (take n) (remaining r)) (λ xs. new ≡ old ++ xs)) same
    (subst (λ k. IfSome (option_map (take k) (remaining inner)) (λ xs. new ≡ old ++ xs)) bound h))

module _ (equip : List PointFigures → Stock) (text : List ℕ) where
  -- a text that is too long comes to what its first bytes come to, as they are too many already
  first : (file : Option Request) (b : Book) (out : List ℕ) → 65537 < length text → Answered equip (take 65537 text) file b out → Answered equip text file b out
  first (Some q) b out long (is, by) =
      let short = is.short in
      absurd (omega (arith, length-take 65537 text))
  first None b out long (f, inl (large, why, line), empty, lines) = (f, inl (omega arith, why, line), empty, lines)
  first None b out long (f, inr (small, fault), empty, lines) = absurd (omega (arith, length-take 65537 text))

  by_length : (long : Bool) → ltb 65537 (length text) ≡ long → (file : Option Request) (b : Book) (out : List ℕ)
      → Answered equip (take 65537 text) file b out → Answered equip text file b out
  by_length true e file b out h = first file b out (ltb-true _ _ e) h
  by_length false e file b out h =
      let few : length text ≤ 65537 = ltb-false _ _ e in
      subst (λ (t : List ℕ). Answered equip t file b out) (take_all 65537 text few) h

  -- what the first 65,537 bytes of a text come to
  pub whole : (before after : Option (List ℕ)) → AnsweredInto equip before after (take 65537 text) → AnsweredInto equip before after text
  whole before after (file, b, out, answered, written) = (file, b, out, by_length (ltb 65537 (length text)) refl file b out answered, written)

-- where all bytes of an input are known, these are answered
pub of_input : {T F : Type 0} (equip : List PointFigures → Stock) (made : Result T F) (known : Option (List ℕ)) (read : List ℕ)
    (before after : Option (List ℕ)) → IfSome known (λ text. read ≡ take 65537 text) → OnOk made (AnsweredInto equip before after read)
    → OnOk made (IfSome known (AnsweredInto equip before after))
of_input equip (Err e) known read before after is h = tt
of_input equip (Ok x) None read before after is h = tt
of_input equip (Ok x) (Some text) read before after is h =
    whole equip text before after (subst (λ (t : List ℕ). AnsweredInto equip before after t) is h)
