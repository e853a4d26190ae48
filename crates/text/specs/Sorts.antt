-- Sections of a text: a heading with a count, and then that many lines of one sort.
use Rattle.std.specs.Prelude.{◌≡◌, ℕ, ◌+◌, ◌<◌, ◌≤◌, ◌⊎◌, List, [], ◌∷◌, ◌++◌, length, Ok, Err, decimal, Result}
use Rattle.std.specs.List.{flat_map}
use Rattle.rules.specs.declared.refusal.Refusal.{Refusal}
use Rattle.rules.specs.declared.refusal.Refusal.TheVariants.{MalformedLine, WrongCount}
use Rattle.text.specs.Numerals.{Short, Cut}
use Rattle.text.specs.Fields.{spaced}
use Rattle.text.specs.Texts.{NoLine}

-- a sort of line: the name in its heading, the least and the greatest count, the line that an entry is written as, the entries
-- that can be written, those that are lawful after others, and the refusal of one that is not
pub record Sort (X : Type 0) : Type 1 where
  pub name : List ℕ
  pub least : ℕ
  pub most : ℕ
  pub written : X → List ℕ
  pub Formed : X → Type 0
  pub Lawful : List X → X → Type 0
  pub refusal : Refusal

-- a count that a heading may tell
abbrev pub Allowed : {X : Type 0} → Sort X → ℕ → Type 0
Allowed s n = (s.least ≤ n) × (n ≤ s.most)

-- the line of a heading: the name, a space and the count
abbrev pub heading : List ℕ → ℕ → List ℕ
heading name n = spaced (name ∷ decimal n ∷ [])

-- line is the name, a space and rest
abbrev pub NamedBefore : {X : Type 0} → Sort X → List ℕ → List ℕ → Type 0
NamedBefore s line rest = line ≡ s.name ++ 32 ∷ rest

-- headings are a sort too: one says how many entries follow, and a count that is not allowed is refused (there is no heading of
-- headings: their name and how many there are stand for nothing)
abbrev pub headings : {X : Type 0} → Sort X → Sort ℕ
headings s =
    record {
      name = [];
      least = 0;
      most = 9999999;
      written = heading s.name;
      Formed = Short;
      Lawful = λ _ n. Allowed s n;
      refusal = WrongCount;
    }

module _ {X : Type 0} (s : Sort X) where
  -- a line that says x
  abbrev pub Says : List ℕ → X → Type 0
  Says line x = s.Formed x × (line ≡ s.written x)

  -- the next line of text says x, which is lawful after those before, and rest follows
  pub record Next (before : List X) (text : List ℕ) (x : X) (rest : List ℕ) : Type 0 where
    pub formed : s.Formed x
    pub lawful : s.Lawful before x
    pub line : text ≡ s.written x ++ 10 ∷ rest

  -- where an entry is due after those before, a whole line says none, or says one that is not lawful
  abbrev pub Bad : List X → List ℕ → Refusal → Type 0
  Bad before line why =
      ((why ≡ MalformedLine) × ((x : X) → Says line x → ⊥))
      ⊎ ((why ≡ s.refusal) × ((x : X) × Says line x × (s.Lawful before x → ⊥)))

  -- the next line of text is missing or is at fault
  abbrev pub NextFault : List X → List ℕ → Refusal → Type 0
  NextFault before text why = NoLine text why ⊎ ((line : List ℕ) × (rest : List ℕ) × Cut 10 text line rest × Bad before line why)

  -- the lines of entries, each ended by a line feed
  abbrev pub lines : List X → List ℕ
  lines xs = flat_map (λ x. s.written x ++ 10 ∷ []) xs

  -- each of these entries can be written, and is lawful after those before it
  abbrev pub Proper : List X → List X → Type 0
  Proper before [] = Unit {0}
  Proper before (x ∷ xs) = s.Formed x × s.Lawful before x × Proper (before ++ x ∷ []) xs

  -- the text begins with the lines of proper entries, and rest follows
  pub record Begins (text : List ℕ) (xs : List X) (rest : List ℕ) : Type 0 where
    pub proper : Proper [] xs
    pub lines : text ≡ lines xs ++ rest

  -- the text of a section: the heading with the count, and the lines of the entries
  abbrev pub section : List X → List ℕ
  section xs = heading s.name (length xs) ++ 10 ∷ lines xs

  -- as many entries as a section may have, each proper
  pub record Good (xs : List X) : Type 0 where
    pub allowed : Allowed s (length xs)
    pub proper : Proper [] xs

  -- the text begins with a section that has nothing wrong, and rest follows
  pub record Read (text : List ℕ) (xs : List X) (rest : List ℕ) : Type 0 where
    pub good : Good xs
    pub section : text ≡ section xs ++ rest

  -- where some entries are due the text begins with fewer, `right` of them, and the line after them is at fault
  pub record EntriesFault (text : List ℕ) (due right : ℕ) (why : Refusal) : Type 0 where
    pub done : List X
    pub rest : List ℕ
    pub begins : Begins text done rest
    pub counted : right ≡ length done
    pub fewer : length done < due
    pub fault : NextFault done rest why

  -- what a store does with an entry: it holds it behind the others, or refuses it and is unchanged, as the entry is not lawful
  -- or there are as many as there may be
  abbrev pub Stored : {D : Type 0} → (D → List X) → D → X → Result (Unit {0}) Refusal → D → Type 0
  Stored held old x (Ok _) new = s.Lawful (held old) x × (held new ≡ held old ++ x ∷ [])
  Stored held old x (Err e) new =
      (new ≡ old) × (((e ≡ s.refusal) × (s.Lawful (held old) x → ⊥)) ⊎ (s.most ≤ length (held old)))

-- the text begins with a heading, and after some of the entries that are due then a line is at fault
pub record EntryFault {X : Type 0} (s : Sort X) (text : List ℕ) (right : ℕ) (why : Refusal) : Type 0 where
  pub due : ℕ
  pub entries : List ℕ
  pub begins : Next (headings s) [] text due entries
  pub done : ℕ
  pub fault : EntriesFault s entries due done why
  pub counted : right ≡ done + 1

-- the text begins with `right` lines of a section that have nothing wrong, and the next is at fault: the heading, or an entry
abbrev pub Wrong : {X : Type 0} → Sort X → List ℕ → ℕ → Refusal → Type 0
Wrong s text right why = ((right ≡ 0) × NextFault (headings s) [] text why) ⊎ EntryFault s text right why

-- the text begins with a heading, and then with the lines of these entries, each proper
pub record BeginsSection {X : Type 0} (s : Sort X) (text : List ℕ) (xs : List X) : Type 0 where
  pub due : ℕ
  pub entries : List ℕ
  pub rest : List ℕ
  pub heading : Next (headings s) [] text due entries
  pub begins : Begins s entries xs rest

-- the first `right` lines of a section have nothing wrong, and say these entries: none where there is no line; else the first
-- line is the heading, and each of the others says one
abbrev pub LinesSay : {X : Type 0} → Sort X → List ℕ → ℕ → List X → Type 0
LinesSay s text right xs = ((right ≡ 0) × (xs ≡ [])) ⊎ ((right ≡ length xs + 1) × BeginsSection s text xs)
