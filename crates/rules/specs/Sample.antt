-- The example that figures are checked on: a locomotive of 100 t and a wagon of 60 t with the freight brake, on one long
-- section, asked at its start for full braking; and what such a locomotive hauls.
use Rattle.std.specs.Prelude.{ℕ, true, List, [], ◌∷◌, ℤ}
use Rattle.rules.specs.declared.figures.PointFigures.{PointFigures}
use Rattle.rules.specs.declared.figures.SectionFigures.{SectionFigures}
use Rattle.rules.specs.Given.{straight_section}
use Rattle.rules.specs.Law.{Falling, Stock, stock, rounded_falling, rounded_drag}
use Rattle.rules.specs.Layers.{scaled}
use Rattle.rules.specs.Table.{table_pull}
use Rattle.rules.specs.Formulas.{cast_iron, wagon_drag, df4}
use Rattle.rules.specs.Kind.{freight}
use Rattle.rules.specs.Book.{Book, Vehicle, book, vehicle, appended}
use Rattle.rules.specs.Questions.{appending, asked_to_stop}
use Rattle.rules.specs.Mass.{asked_for_mass}
use Rattle.rules.specs.Speed.{asked_for_speed}
use Rattle.rules.specs.Refusals.{Reply, first_no, unless}

-- a locomotive of 100 t with its brake in
abbrev pub example_locomotive : Vehicle
example_locomotive = vehicle (record { letter = 76; mass = 1000; pressure = 400 }) true

-- it and a wagon of 60 t
abbrev pub example_train : List Vehicle
example_train = example_locomotive ∷ vehicle (record { letter = 87; mass = 600; pressure = 200 }) true ∷ []

-- six such locomotives, which pull more than a coupler takes
abbrev pub six_locomotives : List Vehicle
six_locomotives =
    example_locomotive ∷ example_locomotive ∷ example_locomotive ∷ example_locomotive ∷ example_locomotive ∷ example_locomotive ∷ []

-- 3,000 m of a gradient, straight and without a stop
abbrev pub long_section : ℤ → SectionFigures
long_section = straight_section 3000

-- the example train on such a section, and on none where its gradient is not lawful
abbrev pub example_book : ℤ → Book
example_book i =
    unless (first_no (appending [] (long_section i))) (appended (book example_train [] 1000) (long_section i)) (book example_train [] 1000)

-- the pull table of its locomotive
abbrev pub example_points : List PointFigures
example_points = record { speed = 0; value = 40000 } ∷ record { speed = 400; value = 20000 } ∷ []

-- the pull that this table tells, and nine tenths of it
abbrev pub full_pull : Falling
full_pull = rounded_falling (table_pull example_points)

abbrev pub example_pull : Falling
example_pull = scaled 90 full_pull

-- cast iron blocks, a DF4 locomotive of some pull, and wagons
abbrev pub example_stock : Falling → Stock
example_stock pull = stock (rounded_falling cast_iron) pull (rounded_drag df4) (rounded_drag df4) (rounded_drag wagon_drag)

-- the stop that is asked for
abbrev pub example_stop : Falling → Book → ℕ → Reply
example_stop pull b speed = asked_to_stop freight (example_stock pull) b 0 speed 10

-- the speed that is asked for
abbrev pub example_speed : Falling → Book → Reply
example_speed pull b = asked_for_speed freight (example_stock pull) b (record { place = 0; factor = 10 })

-- the mass that is asked for over some sections, at 20 km/h and wagons of 60 t: of a train, and of the example
abbrev pub train_hauls : List Vehicle → Falling → List SectionFigures → Reply
train_hauls vs pull fs = asked_for_mass (example_stock pull) (book vs fs 1000) (record { speed = 200; gross = 600 })

abbrev pub example_mass : Falling → List SectionFigures → Reply
example_mass = train_hauls example_train
