-- `apply` meets its contract: one equation of the definition for each effect.
use mathlib.Core.Logic.{inl, inr}
use mathlib.Core.Path.{refl}
use Rattle.reg_write.specs.Write.{applied}
use Rattle.reg_write.proofs.apply.Goals as goal

pub returns-in-Nothing : goal.returns-in-Nothing
unfolding applied
returns-in-Nothing c = elim c.in-Nothing.is [ inl e ↦ rw e refl | inr o ↦ elim o [ inl e ↦ rw e refl | inr e ↦ rw e refl ] ]

pub returns-in-Byte : goal.returns-in-Byte
unfolding applied
returns-in-Byte c = rw c.in-Byte.is c.put_byte.ensures

pub returns-in-Transfer : goal.returns-in-Transfer
unfolding applied
returns-in-Transfer c = rw c.in-Transfer.is c.transfer.ensures

pub returns-in-Reset : goal.returns-in-Reset
unfolding applied
returns-in-Reset c = rw c.in-Reset.is c.reset.ensures
