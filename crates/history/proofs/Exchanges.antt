-- Calls performed one after another, each with its reply beside it.
use Rattle.std.proofs.Common.{◌≡◌, ℕ, ◌+◌, ◌<◌, List, [], ◌∷◌, ◌++◌, map, length, get_or, take, set, Some, Option, sym, refl, ap, ◌∙◌, subst, arith}
use Rattle.std.proofs.lemmas.List.{take_more_set, take_more, take_all, length-map, get_or-map, map-append}
use Rattle.std.proofs.Math.Seq.{map-set_same}
use Rattle.rules.specs.Book.{Book}
use Rattle.rules.specs.History.{Inquiry, Event, reply, next, replies, after, Run}
use Rattle.rules.specs.Refusals.{Reply as Told}
use Rattle.rules.proofs.Histories.{replies_more, after_more, run_more}
use Rattle.history.specs.Calls.{event_of, events_of, told_beside, ExchangePerformed, AllPerformed}
use Rattle.history.specs.declared.call.Call.{Call}
use Rattle.history.specs.declared.call.Exchange.{Exchange}

map-map : {X Y Z : Type 0} (f : X → Y) (g : Y → Z) (xs : List X) → map g (map f xs) ≡ map (λ x. g (f x)) xs
map-map f g [] = refl
map-map f g (x ∷ xs) = ap (λ t. g (f x) ∷ t) (map-map f g xs)

module _ {Q : Type 0} (inquiry : Q → Inquiry) (b : Book) (old : List (Exchange Q)) where
  abbrev call : Exchange Q → Call Q
  call e = e.call

  abbrev event : Exchange Q → Event
  event e = event_of inquiry e.call

  -- the events of the first i calls
  abbrev first : ℕ → List Event
  first i = take i (events_of inquiry old)

  -- the first i calls are performed, and the book is c
  pub record Kept (i : ℕ) (now : List (Exchange Q)) (c : Book) : Type 0 where
    pub same : map call now ≡ map call old
    pub beside : map told_beside (take i now) ≡ map Some (replies b (first i))
    pub held : c ≡ after b (first i)
    pub run : Run b (first i) (replies b (first i)) c

  pub begins : Kept 0 old b
  begins = record { same = refl; beside = refl; held = refl; run = refl }

  module _ (i : ℕ) (now : List (Exchange Q)) (c : Book) (kept : Kept i now c) where
    same_events : events_of inquiry now ≡ events_of inquiry old
    same_events = sym (map-map call (event_of inquiry) now) ∙ ap (map (event_of inquiry)) kept.same ∙ map-map call (event_of inquiry) old

    counted : length now ≡ length old
    counted = sym (length-map now call) ∙ ap length kept.same ∙ length-map old call

    -- one call more
    module _ (other y : Exchange Q) (d : Book) (before : i < length old) (made : ExchangePerformed inquiry c (get_or now i other) y d) where
      abbrev x : Exchange Q
      x = get_or now i other

      lt : i < length now
      lt = omega (arith, counted)

      abbrev r : Told
      r = reply c (event x)

      next_event : first (i + 1) ≡ first i ++ event x ∷ []
      next_event =
          let long : i < length (events_of inquiry now) = rw (length-map now event) lt in
          let here : get_or (events_of inquiry now) i (event x) ≡ event x = get_or-map event now i other (event x) lt in
          ap (take (i + 1)) (sym same_events) ∙ take_more (events_of inquiry now) i (event x) long
          ∙ ap (λ (t : List Event). t ++ get_or (events_of inquiry now) i (event x) ∷ []) (ap (take i) same_events)
          ∙ ap (λ (t : Event). first i ++ t ∷ []) here

      is_reply : r ≡ reply (after b (first i)) (event x)
      is_reply = ap (λ (t : Book). reply t (event x)) kept.held

      more : replies b (first i ++ event x ∷ []) ≡ replies b (first i) ++ r ∷ []
      more = replies_more b (first i) (event x) ∙ ap (λ (t : Told). replies b (first i) ++ t ∷ []) (sym is_reply)

      pub turn : Kept (i + 1) (set now i y) d
      turn =
          record {
            same = map-set_same call now i y other made.same ∙ kept.same;
            beside =
                ap (map told_beside) (take_more_set now i y lt) ∙ map-append told_beside (take i now) (y ∷ [])
                ∙ ap (λ (t : List (Option Told)). t ++ told_beside y ∷ []) kept.beside
                ∙ ap (λ (t : Option Told). map Some (replies b (first i)) ++ t ∷ []) made.beside
                ∙ sym (map-append Some (replies b (first i)) (r ∷ []))
                ∙ ap (map Some) (sym more) ∙ ap (λ (t : List Event). map Some (replies b t)) (sym next_event);
            held =
                made.performed.held ∙ ap (λ (t : Book). next t (event x)) kept.held ∙ sym (after_more b (first i) (event x)) ∙ ap (after b) (sym next_event);
            run =
                subst (λ (t : List Event). Run b t (replies b t) d) (sym next_event)
                (subst (λ (t : List Told). Run b (first i ++ event x ∷ []) t d) (sym more) (run_more b c d (first i) (replies b (first i)) (event x) r kept.run made.performed));
          }

    -- where all are performed
    pub ends : i ≡ length now → AllPerformed inquiry b old now c
    ends all =
        let whole : first i ≡ events_of inquiry old = take_all i (events_of inquiry old) (omega (arith, counted, length-map old event)) in
        record {
          same = kept.same;
          given = replies b (events_of inquiry old);
          beside = ap (map told_beside) (sym (take_all i now (omega arith))) ∙ kept.beside ∙ ap (λ (t : List Event). map Some (replies b t)) whole;
          history =
              record {
                told = refl;
                held = kept.held ∙ ap (after b) whole;
                run = subst (λ (t : List Event). Run b t (replies b t) c) whole kept.run;
              };
        }
