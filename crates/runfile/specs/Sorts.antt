-- The five sections of a run file.
use Rattle.std.specs.Prelude.{◌≡◌, true, [], ◌∷◌, ◌++◌, None, ⊤, codes}
use Rattle.rules.specs.declared.figures.PointFigures.{PointFigures}
use Rattle.rules.specs.declared.figures.Question.{Question}
use Rattle.rules.specs.declared.figures.SectionFigures.{SectionFigures}
use Rattle.rules.specs.declared.refusal.Refusal.TheVariants.{UnlawfulVehicle, UnlawfulSection, UnlawfulBrakingDistance, QuestionOutOfRange, UnlawfulLaw}
use Rattle.rules.specs.Book.{Vehicle}
use Rattle.rules.specs.Questions.{lawful_vehicle, lawful_section, setting_distance}
use Rattle.rules.specs.Refusals.{first_no}
use Rattle.rules.specs.Table.{lawful_table}
use Rattle.text.specs.Sorts.{Sort}
use Rattle.runfile.specs.Lines.{head_line, HeadForm, point_line, PointForm, vehicle_line, VehicleForm, section_line, SectionForm, question_line, QuestionForm}
use Rattle.runfile.specs.declared.head.Head.{Head}

-- one kind of brake and one braking distance, which may be set
abbrev pub head_sort : Sort Head
head_sort =
    record {
      name = codes "RUN";
      least = 1;
      most = 1;
      written = head_line;
      Formed = HeadForm;
      Lawful = λ _ h. first_no (setting_distance h.distance) ≡ None;
      refusal = UnlawfulBrakingDistance;
    }

-- 1 to 16 points, each making a table with those before it
abbrev pub point_sort : Sort PointFigures
point_sort =
    record {
      name = codes "PUL";
      least = 1;
      most = 16;
      written = point_line;
      Formed = PointForm;
      Lawful = λ before p. lawful_table (before ++ p ∷ []) ≡ true;
      refusal = UnlawfulLaw;
    }

-- up to 120 vehicles that may be coupled
abbrev pub vehicle_sort : Sort Vehicle
vehicle_sort =
    record {
      name = codes "VEH";
      least = 0;
      most = 120;
      written = vehicle_line;
      Formed = VehicleForm;
      Lawful = λ _ v. lawful_vehicle v.figures ≡ true;
      refusal = UnlawfulVehicle;
    }

-- up to 200 sections that may be appended
abbrev pub section_sort : Sort SectionFigures
section_sort =
    record {
      name = codes "SEC";
      least = 0;
      most = 200;
      written = section_line;
      Formed = SectionForm;
      Lawful = λ _ s. lawful_section s ≡ true;
      refusal = UnlawfulSection;
    }

-- up to 200 questions, whatever they ask: none is refused by reading, so their refusal is never told
abbrev pub question_sort : Sort Question
question_sort =
    record {
      name = codes "ASK";
      least = 0;
      most = 200;
      written = question_line;
      Formed = QuestionForm;
      Lawful = λ _ _. ⊤;
      refusal = QuestionOutOfRange;
    }
