-- A fault is found behind sections that have nothing wrong.
use Rattle.std.proofs.Common.{◌≡◌, ℕ, ◌+◌, inl, inr, List, length, sym}
use Rattle.rules.specs.declared.fault.Fault.{Fault}
use Rattle.text.specs.Files.{Plan, nothing, first, FaultIn, LeftOver}
use Rattle.text.specs.Sorts.{Sort, Read, Wrong}

-- a section is wrong behind some lines
abbrev pub WrongAt : {X : Type 0} → Sort X → List ℕ → ℕ → Fault → Type 0
WrongAt s text line f = (right : ℕ) × Wrong s text right f.refusal × (f.line ≡ line + (right + 1))

-- the first section has nothing wrong, and what follows it is at fault
behind : {X : Type 0} (s : Sort X) (more : Plan) (text rest : List ℕ) (line after : ℕ) (xs : List X) (f : Fault) → Read s text xs rest
    → after ≡ line + (length xs + 1) → FaultIn more after rest f → FaultIn (first s more) line text f
behind s more text rest line after xs f right is h = inr (xs, rest, right, rw (sym is) h)

module _ {A B C D E : Type 0} (sa : Sort A) (sb : Sort B) (sc : Sort C) (sd : Sort D) (se : Sort E) (f : Fault) where
  abbrev past_d : Plan
  past_d = first se nothing

  abbrev past_c : Plan
  past_c = first sd past_d

  abbrev past_b : Plan
  past_b = first sc past_c

  abbrev past_a : Plan
  past_a = first sb past_b

  abbrev plan : Plan
  plan = first sa past_a

  pub first_wrong : (t : List ℕ) → WrongAt sa t 0 f → FaultIn plan 0 t f
  first_wrong t h = inl h

  module _ (ta tb : List ℕ) (la : ℕ) (xa : List A) (ra : Read sa ta xa tb) (ea : la ≡ 0 + (length xa + 1)) where
    past_first : FaultIn past_a la tb f → FaultIn plan 0 ta f
    past_first = behind sa past_a ta tb 0 la xa f ra ea

    pub second_wrong : WrongAt sb tb la f → FaultIn plan 0 ta f
    second_wrong h = past_first (inl h)

    module _ (tc : List ℕ) (lb : ℕ) (xb : List B) (rb : Read sb tb xb tc) (eb : lb ≡ la + (length xb + 1)) where
      past_second : FaultIn past_b lb tc f → FaultIn plan 0 ta f
      past_second h = past_first (behind sb past_b tb tc la lb xb f rb eb h)

      pub third_wrong : WrongAt sc tc lb f → FaultIn plan 0 ta f
      third_wrong h = past_second (inl h)

      module _ (td : List ℕ) (lc : ℕ) (xc : List C) (rc : Read sc tc xc td) (ec : lc ≡ lb + (length xc + 1)) where
        past_third : FaultIn past_c lc td f → FaultIn plan 0 ta f
        past_third h = past_second (behind sc past_c tc td lb lc xc f rc ec h)

        pub fourth_wrong : WrongAt sd td lc f → FaultIn plan 0 ta f
        fourth_wrong h = past_third (inl h)

        module _ (te : List ℕ) (ld : ℕ) (xd : List D) (rd : Read sd td xd te) (ed : ld ≡ lc + (length xd + 1)) where
          past_fourth : FaultIn past_d ld te f → FaultIn plan 0 ta f
          past_fourth h = past_third (behind sd past_d td te lc ld xd f rd ed h)

          pub fifth_wrong : WrongAt se te ld f → FaultIn plan 0 ta f
          fifth_wrong h = past_fourth (inl h)

          module _ (tf : List ℕ) (le : ℕ) (xe : List E) (re : Read se te xe tf) (ee : le ≡ ld + (length xe + 1)) where
            pub left_over : LeftOver le tf f → FaultIn plan 0 ta f
            left_over h = past_fourth (behind se nothing te tf ld le xe f re ee h)
