-- A run file worked out by hand, from its lines to the lines that answer it, and three that have a fault.
use Rattle.std.specs.Prelude.{◌≡◌, ℕ, true, List, [], ◌∷◌, ◌++◌, pos, negsuc, codes}
use Rattle.std.specs.List.{flat_map}
use Rattle.laws.specs.declared.kind.KindLetter.TheVariants.{F}
use Rattle.rules.specs.declared.fault.Fault.{Fault}
use Rattle.rules.specs.declared.figures.Question.TheVariants.{Stop, Speed, Mass}
use Rattle.rules.specs.declared.refusal.Refusal.{Refusal}
use Rattle.rules.specs.declared.refusal.Refusal.TheVariants.{UnlawfulBrakingDistance, WrongCount, MalformedLine}
use Rattle.rules.specs.Book.{Book, book, vehicle}
use Rattle.rules.specs.Given.{straight_section, full_braking}
use Rattle.rules.specs.History.{replies}
use Rattle.rules.specs.Refusals.{Reply, stops, runs, hauls, refused}
use Rattle.rules.specs.Sample.{example_train, example_points, example_stock, example_pull}
use Rattle.text.specs.Fields.{Leads, Three}
use Rattle.text.specs.Numerals.{Numeral, SignedNumeral}
use Rattle.text.specs.Sorts.{heading}
use Rattle.printing.specs.Lines.{reply_line, fault_line}
use Rattle.runfile.specs.Lines.{head_line, point_line, vehicle_line, section_line, question_line}
use Rattle.runfile.specs.Run.{Request, request, head, IsRun, IsFault}
use Rattle.answering.specs.Answers.{calls_of, numbered}

-- lines, each ended by LF
abbrev pub ended : List (List ℕ) → List ℕ
ended = flat_map (λ line. line ++ 10 ∷ [])

-- a run file of 15 lines
abbrev pub worked_text : List ℕ
worked_text =
    ended
    (codes "RUN 1"
    ∷ codes "F 1000"
    ∷ codes "PUL 2"
    ∷ codes "0 40000"
    ∷ codes "400 20000"
    ∷ codes "VEH 2"
    ∷ codes "L 1000 400 1"
    ∷ codes "W 600 200 1"
    ∷ codes "SEC 2"
    ∷ codes "1500 0 0 0 0"
    ∷ codes "1500 80 0 0 0"
    ∷ codes "ASK 3"
    ∷ codes "S 0 100 10"
    ∷ codes "M 200 600"
    ∷ codes "S 2500 100 10"
    ∷ [])

-- what it says: its kind of brake, its points and its questions, and the book of its train and line
abbrev pub worked_request : Request
worked_request =
    request F example_points
    (Stop (full_braking 0 100) ∷ Mass (record { speed = 200; gross = 600 }) ∷ Stop (full_braking 2500 100) ∷ [])

abbrev pub worked_book : Book
worked_book = book example_train (straight_section 1500 (pos 0) ∷ straight_section 1500 (pos 80) ∷ []) 1000

-- what its book replies, where a locomotive pulls nine tenths of the table
abbrev pub worked_replies : List Reply
worked_replies = stops 24917 74250 1 ∷ hauls 26000 ∷ refused 9 ∷ []

abbrev pub fault : ℕ → Refusal → Fault
fault line why = record { line = line; refusal = why }

-- the examples, each with its case
pub record WorkedRunFiles : Type 0 where
  -- fields
  pub number : Numeral (codes "400") 400
  pub number_under_zero : SignedNumeral (codes "-400") (negsuc 399)
  pub leading : Leads (codes "600 200 1") 600 (codes "200 1")
  pub three : Three (codes "0 100 10") (0, 100, 10)
  -- lines
  pub heading_line : heading (codes "PUL") 2 ≡ codes "PUL 2"
  pub first_line : head_line (head F 1000) ≡ codes "F 1000"
  pub line_of_point : point_line (record { speed = 400; value = 20000 }) ≡ codes "400 20000"
  pub line_of_vehicle : vehicle_line (vehicle (record { letter = 76; mass = 1000; pressure = 400 }) true) ≡ codes "L 1000 400 1"
  pub line_of_section : section_line (record { metres = 500; gradient = negsuc 79; curve = 250; radius = 300; stop = 1 }) ≡ codes "500 -80 250 300 1"
  pub line_of_stop : question_line (Stop (full_braking 0 100)) ≡ codes "S 0 100 10"
  pub line_of_speed : question_line (Speed (record { place = 0; factor = 7 })) ≡ codes "V 0 7"
  pub line_of_mass : question_line (Mass (record { speed = 200; gross = 600 })) ≡ codes "M 200 600"
  -- the example is a run file; its book replies to its questions, and the replies are printed
  pub is_run : IsRun worked_text worked_request worked_book
  pub replied : replies worked_book (calls_of (example_stock example_pull) worked_request) ≡ worked_replies
  pub printed : numbered 1 worked_replies ≡ ended (codes "1 OK 24917 74250 1" ∷ codes "2 OK 26000" ∷ codes "3 NO 9" ∷ [])
  pub speed_printed : reply_line 4 (runs 900) ≡ ended (codes "4 OK 900" ∷ [])
  -- a text of no bytes lacks its line 1; a count over its limit; a braking distance that no sheet may have
  pub empty : IsFault [] (fault 1 WrongCount)
  pub two_heads : IsFault (ended (codes "RUN 2" ∷ codes "F 1000" ∷ [])) (fault 1 WrongCount)
  pub too_near : IsFault (ended (codes "RUN 1" ∷ codes "F 399" ∷ [])) (fault 2 UnlawfulBrakingDistance)
  pub fault_printed : fault_line (fault 2 UnlawfulBrakingDistance) ≡ ended (codes "FAULT SHEET 2 6" ∷ [])
  pub line_printed : fault_line (fault 4 MalformedLine) ≡ ended (codes "FAULT TEXT 4 15" ∷ [])
