-- The example train and its line, as the checked figures have them, and the laws of a DF4 locomotive without its pull.
pub use Rattle.rules.specs.Sample.{example_train, long_section, example_book}
use Rattle.rules.specs.Formulas.{no_pull}
use Rattle.rules.specs.Law.{Falling, Stock, falling}
use Rattle.rules.specs.Sample.{example_stock}

-- no pull at any speed, told without slack
abbrev pub no_traction : Falling
no_traction = falling (λ _. no_pull) (λ _. 0) (λ _. 0) 0

abbrev pub df4_stock : Stock
df4_stock = example_stock no_traction
