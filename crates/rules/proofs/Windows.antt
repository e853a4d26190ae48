-- Windows: a line that goes on past a place has a section in every window that begins there, and a window holds none but
-- sections of the line.
use Rattle.std.proofs.Common.{◌≡◌, ℕ, zero, suc, ◌+◌, ◌<◌, ◌≤◌, ◌⊎◌, inl, inr, Bool, true, false, cond, ◌&&◌, List, [], ◌∷◌, map, length, take, get_or, leb, All, sym, refl, ap, arith}
use Rattle.std.proofs.lemmas.Bool.{le-leb, leb-true, and_parts}
use native.Mathlib.Decide.{dec_le}
use Rattle.rules.specs.declared.figures.SectionFigures.{SectionFigures}
use Rattle.rules.specs.Book.{line_length}
use Rattle.rules.specs.Window.{Located, located, shares_point, those, window, window_from, WindowsAreTouched}
use Rattle.rules.proofs.Members.{In, in_list, contained, of_all, to_all}

-- one that shares a point is in it
taken : (b : Bool) (x : Located) (xs : List Located) → b ≡ true → 1 ≤ length (map (λ t. t.section) (cond b (x ∷ xs) xs))
taken true x xs e = omega arith
taken false x xs e = absurd (let z : ◌≡◌ {A = ℕ} 0 1 = cc in omega arith)

-- and another leaves those behind it in it
passed : (b : Bool) (x : Located) (xs : List Located) → 1 ≤ length (map (λ t. t.section) xs) → 1 ≤ length (map (λ t. t.section) (cond b (x ∷ xs) xs))
passed true x xs h = omega arith
passed false x xs h = h

pub both_true : (a b : Bool) → a ≡ true → b ≡ true → (a && b) ≡ true
both_true true true h k = refl
both_true true false h k = k
both_true false b h k = h

some_from : (from to start : ℕ) (fs : List SectionFigures) → from ≤ to → start ≤ from → from < start + line_length fs → 1 ≤ length (window_from start from to fs)
some_from from to start [] h k r = absurd (omega arith)
some_from from to start (f ∷ fs) h k r =
    elim (dec_le from (start + f.metres)) [
      | yes p ↦ taken _ _ _ (both_true _ _ (le-leb start to (omega arith)) (le-leb from (start + f.metres) p))
      | no n ↦ passed _ _ _ (some_from from to (start + f.metres) fs h (omega arith) (omega arith))
    ]

pub some_section : (from to : ℕ) (fs : List SectionFigures) → from ≤ to → from < line_length fs → 1 ≤ length (window from to fs)
some_section from to fs h r = some_from from to 0 fs h (omega arith) (omega arith)

-- ---- what holds of each section of a line holds of those in a window

in_those : (b : Bool) (f : SectionFigures) (x : Located) (xs : List Located) → In f (map (λ t. t.section) (cond b (x ∷ xs) xs)) → (f ≡ x.section) ⊎ In f (map (λ t. t.section) xs)
in_those true f x xs i = i
in_those false f x xs i = inr i

in_line : (from to start : ℕ) (fs : List SectionFigures) (f : SectionFigures) → In f (window_from start from to fs) → In f fs
in_line from to start [] f i = i
in_line from to start (g ∷ fs) f i =
    elim (in_those (shares_point from to (record { start = start; section = g })) f (record { start = start; section = g }) (those (shares_point from to) (located (start + g.metres) fs)) i) [
      | inl e ↦ inl e
      | inr j ↦ inr (in_line from to (start + g.metres) fs f j)
    ]

pub all_in_window : (P : SectionFigures → Type 0) (from to : ℕ) (fs : List SectionFigures) → All P fs → All P (window from to fs)
all_in_window P from to fs h = to_all P (window from to fs) (λ f i. of_all P fs h f (in_line from to 0 fs f i))

-- ---- a window has just the sections that a place of the stretch lies on

-- section k of a line that begins at `start` is f, and a place of the stretch lies on it
record Touched (from to start : ℕ) (fs : List SectionFigures) (f : SectionFigures) : Type 0 where
  k : ℕ
  place : ℕ
  there : k < length fs
  is : get_or fs k f ≡ f
  begins : start + line_length (take k fs) ≤ place
  ends : place ≤ start + line_length (take k fs) + f.metres
  after : from ≤ place
  before : place ≤ to

here_or : (b : Bool) (f : SectionFigures) (x : Located) (xs : List Located) → In f (map (λ t. t.section) (cond b (x ∷ xs) xs))
    → ((b ≡ true) × (f ≡ x.section)) ⊎ In f (map (λ t. t.section) xs)
here_or true f x xs (inl e) = inl (refl, e)
here_or true f x xs (inr i) = inr i
here_or false f x xs i = inr i

kept : (b : Bool) (f : SectionFigures) (x : Located) (xs : List Located) → In f (map (λ t. t.section) xs) → In f (map (λ t. t.section) (cond b (x ∷ xs) xs))
kept true f x xs i = inr i
kept false f x xs i = i

first_kept : (b : Bool) (f : SectionFigures) (x : Located) (xs : List Located) → b ≡ true → f ≡ x.section → In f (map (λ t. t.section) (cond b (x ∷ xs) xs))
first_kept true f x xs h e = inl e
first_kept false f x xs h e = absurd (let z : ◌≡◌ {A = ℕ} 0 1 = cc in omega arith)

touched_here : (from to start : ℕ) (g f : SectionFigures) (fs : List SectionFigures) → from ≤ to → start ≤ to → from ≤ start + g.metres → f ≡ g
    → Touched from to start (g ∷ fs) f
touched_here from to start g f fs h k r e =
    let long : f.metres ≡ g.metres = ap (λ (t : SectionFigures). t.metres) e in
    elim (dec_le start from) [
      | yes p ↦
          record { k = 0; place = from; there = omega arith; is = sym e; begins = omega arith; ends = omega arith; after = omega arith; before = h }
      | no n ↦
          record { k = 0; place = start; there = omega arith; is = sym e; begins = omega arith; ends = omega arith; after = omega arith; before = k }
    ]

touched : (from to start : ℕ) (fs : List SectionFigures) (f : SectionFigures) → from ≤ to → In f (window_from start from to fs) → Touched from to start fs f
touched from to start [] f h i = absurd i
touched from to start (g ∷ fs) f h i =
    elim (here_or (shares_point from to (record { start = start; section = g })) f (record { start = start; section = g }) (those (shares_point from to) (located (start + g.metres) fs)) i) [
      | inl e ↦
          let parts = and_parts (leb start to) (leb from (start + g.metres)) e.0 in
          touched_here from to start g f fs h (leb-true _ _ parts.0) (leb-true _ _ parts.1) e.1
      | inr j ↦
          let t = touched from to (start + g.metres) fs f h j in
          record {
            k = suc t.k;
            place = t.place;
            there = omega (arith, t.there);
            is = t.is;
            begins = omega (arith, t.begins);
            ends = omega (arith, t.ends);
            after = t.after;
            before = t.before;
          }
    ]

in_touched : (from to start : ℕ) (fs : List SectionFigures) (f : SectionFigures) (k place : ℕ) → k < length fs → get_or fs k f ≡ f
    → start + line_length (take k fs) ≤ place → place ≤ start + line_length (take k fs) + f.metres → from ≤ place → place ≤ to
    → In f (window_from start from to fs)
in_touched from to start [] f k place h e a b c d = absurd (omega arith)
in_touched from to start (g ∷ fs) f zero place h e a b c d =
    let long : g.metres ≡ f.metres = ap (λ (t : SectionFigures). t.metres) e in
    first_kept _ f _ _ (both_true _ _ (le-leb start to (omega arith)) (le-leb from (start + g.metres) (omega arith))) (sym e)
in_touched from to start (g ∷ fs) f (suc k) place h e a b c d =
    kept _ f _ _ (in_touched from to (start + g.metres) fs f k place (omega arith) e (omega arith) (omega arith) c d)

pub windows_are_touched : WindowsAreTouched
windows_are_touched from to fs f h = (
  λ at.
      let t = touched from to 0 fs f h (in_list _ f at) in
      (t.k, t.place, record { there = t.there; is = t.is; from = omega (arith, t.begins); to = omega (arith, t.ends) }, t.after, t.before),
  λ r.
      let on = r.2 in
      contained _ f (in_touched from to 0 fs f r.0 r.1 on.there on.is (omega (arith, on.from)) (omega (arith, on.to)) r.3 r.4),
)
