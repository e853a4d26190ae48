-- A section grows by an entry, and is complete after those that are due.
use Rattle.std.proofs.Common.{◌≡◌, ℕ, List, [], ◌∷◌, ◌++◌, ◌+◌, length, decimal, sym, refl, ◌∙◌, subst, inr}
use Rattle.std.proofs.lemmas.List.{append_assoc, append-nil, append_cancel_left, flat_map_more}
use Rattle.rules.specs.declared.refusal.Refusal.{Refusal}
use Rattle.text.specs.Sorts.{Sort, heading, headings, lines, Proper, Next, Begins, EntriesFault, Read, Wrong, LinesSay, Allowed}

module _ {X : Type 0} (s : Sort X) where
  lines_push : (xs : List X) (x : X) → lines s (xs ++ x ∷ []) ≡ lines s xs ++ (s.written x ++ 10 ∷ [])
  lines_push xs x = sym (flat_map_more (λ y. s.written y ++ 10 ∷ []) [] xs x)

  proper_push : (before xs : List X) (x : X) → Proper s before xs → s.Formed x → s.Lawful (before ++ xs) x → Proper s before (xs ++ x ∷ [])
  proper_push before [] x h form law = (form, rw append-nil at law, tt)
  proper_push before (y ∷ ys) x (f, l, rest) form law =
      (f, l, proper_push (before ++ y ∷ []) ys x rest form (rw append_assoc law))

  pub begins_more : (text : List ℕ) (xs : List X) (rest : List ℕ) (x : X) (after : List ℕ)
      → Begins s text xs rest → Next s xs rest x after → Begins s text (xs ++ x ∷ []) after
  begins_more text xs rest x after begins next =
      let e = begins.lines in
      let f = next.line in
      let p = lines_push xs x in
      let q = append_assoc (lines s xs) (s.written x ++ 10 ∷ []) after in
      let r = append_assoc (s.written x) (10 ∷ []) after in
      record { proper = proper_push [] xs x begins.proper next.formed next.lawful; lines = cc }

  -- a heading and its entries are a section
  pub read_section : (text entries rest : List ℕ) (n : ℕ) (xs : List X)
      → Next (headings s) [] text n entries → length xs ≡ n → Begins s entries xs rest → Read s text xs rest
  read_section text entries rest n xs head len begins =
      let e = head.line in
      let f = begins.lines in
      let assoc = append_assoc (heading s.name n) (10 ∷ lines s xs) rest in
      record {
        good = record { allowed = subst (Allowed s) (sym len) head.lawful; proper = begins.proper };
        section = subst (λ k. text ≡ (heading s.name k ++ 10 ∷ lines s xs) ++ rest) (sym len) cc;
      }

  -- behind a heading and these entries a line is at fault
  pub wrong_entry : (text entries : List ℕ) (due : ℕ) (xs : List X) (why : Refusal) → Next (headings s) [] text due entries
      → (e : EntriesFault s entries due (length xs) why) → e.done ≡ xs
      → Wrong s text (length xs + 1) why × LinesSay s text (length xs + 1) xs
  wrong_entry text entries due xs why head e same = (
    inr (record { due = due; entries = entries; begins = head; done = length xs; fault = e; counted = refl }),
    inr (
      refl,
      record {
        due = due;
        entries = entries;
        rest = e.rest;
        heading = head;
        begins = subst (λ ys. Begins s entries ys e.rest) same e.begins;
      },
    ),
  )

-- what stands after the name in a heading is the numeral of its count
pub count_of : (name rest line : List ℕ) (n : ℕ) → line ≡ name ++ 32 ∷ rest → line ≡ heading name n → rest ≡ decimal n
count_of name rest line n e f = let t = append_cancel_left name (32 ∷ rest) (32 ∷ decimal n) (sym e ∙ f) in cc
