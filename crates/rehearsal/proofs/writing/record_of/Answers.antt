use Rattle.std.proofs.Common.{append-nil}
use Rattle.rehearsal.specs.Encode.{record_of}
use Rattle.rehearsal.proofs.writing.record_of.Goals as goal

pub returns : goal.returns
unfolding record_of
returns c = rw (c.copy_from_slice.ensures.after, c.copy_from_slice-2.ensures.after, c.copy_from_slice-3.ensures.after, c.to_le_bytes.ensures, append-nil)
