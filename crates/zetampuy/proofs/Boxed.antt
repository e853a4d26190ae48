-- What is held by a pointer, with or without its type, owns what a box at the same types owns.
use mathlib.Core.List.{[]}
use mir.Syntax.{impl, tnil, dnil}
use denote.Signature.{Slot, plain}
use Rattle.std_alloc.proofs.BoxSteps.Form.{Bx}
use Rattle.std_heap.specs.contracts.Global as Heap
use Rattle.std_heap.specs.contracts.GlobalAllocator.TheImpl.{ghosts, dict}
use Rattle.std_heap.proofs.Global.TheLaws as heap
use Rattle.answering.specs.contracts.reckoner.Reckoner as Value
use Rattle.answering.proofs.reckoner.Reckoner.TheLaws as value
use Rattle.zetampuy.specs.contracts.unboxed.Unboxed as Unboxed
use Rattle.zetampuy.specs.contracts.held.Held as Held

abbrev pub E : Bx
E = record { row = Value.the_row; laws = value.the_row_laws; al = record { row = Heap.the_row; laws = heap.the_row_laws; g = ghosts; d = dict; drops = impl [] tnil dnil } }

abbrev pub FromUnboxed : Slot 0
FromUnboxed = plain (λ _. Unboxed.the_row Value.the_row Heap.the_row ghosts)

abbrev pub FromHeld : Slot 0
FromHeld = plain (λ _. Held.the_row)

abbrev pub FromHeap : Slot 0
FromHeap = plain (λ _. Heap.the_row)
