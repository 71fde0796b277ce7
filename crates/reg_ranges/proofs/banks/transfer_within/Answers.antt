-- `transfer_within` meets its contract: the transfer of two banks, in the two parts of a memory that is cut between the ranges.
use Rattle.reg_ranges.proofs.Cut.{cut_at_buffer, cut_at_active}
use Rattle.reg_ranges.proofs.banks.transfer_within.Goals as goal

pub returns-then-active-buffer : goal.returns-then-active-buffer
returns-then-active-buffer c =
    let parts = c.split_at_mut-low.ensures in
    cut_at_buffer c.requires _ _ parts.value parts.front_len c.if-active-buffer.true c.transfer.auto.active c.transfer.ensures

pub returns : goal.returns
returns c =
    let parts = c.split_at_mut-low-2.ensures in
    cut_at_active c.requires _ _ parts.value parts.front_len c.if-active-buffer.false c.transfer-2.auto.active c.transfer-2.ensures
