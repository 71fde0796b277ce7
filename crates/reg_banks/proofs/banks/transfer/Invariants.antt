use Rattle.reg_banks.proofs.Filling.{Filling}
use Rattle.reg_banks.proofs.Laws.{transfer_over}
use Rattle.reg_banks.proofs.banks.transfer.Given as goal

abbrev pub invariant-loop-i : goal.invariant-loop-i
invariant-loop-i l = Filling (transfer_over l.map l.buffer) l.initial.active l.active l.i
