-- What a pointer to a reckoner owns.
use Rattle.std.specs.Prelude.{Some, None, Option}
use Rattle.std.specs.Box.Ownership.{box_owns}
use Rattle.std.specs.Coded.{Coded, coded_option}
use Rattle.std.specs.Global.{Global}
use Rattle.std_heap.specs.contracts.GlobalAllocator.TheImpl.{ghosts}
use base.Fml.{Fml, ftrue}
use denote.RawPtr.{Ptr}
use Rattle.answering.specs.contracts.reckoner.Reckoner.{the_row}

-- the heap of the program, of which there is one
abbrev pub heap : Global
heap = record { memory = record { seal = tt } }

-- nothing, or the reckoner there with the right to free it
abbrev pub held_owns : Ptr → Option the_row.Denot → Fml
held_owns p None = ftrue
held_owns p (Some x) = box_owns (ghosts.dealloc_token heap) the_row p x

abbrev pub held_coded : Coded (Option the_row.Denot)
held_coded = coded_option the_row.coded
