use Rattle.frames.proofs.Writing.{read_as_written, written_as_read}
use Rattle.frames.proofs.reader.Reader.next.Goals as goal

pub returns-in_default-clause-written : goal.returns-in_default-clause-written
returns-in_default-clause-written c = read_as_written

pub returns-in_default-clause-only : goal.returns-in_default-clause-only
returns-in_default-clause-only c = written_as_read

pub returns-in_err-frame-clause-written : goal.returns-in_err-frame-clause-written
returns-in_err-frame-clause-written c = read_as_written

pub returns-in_err-frame-clause-only : goal.returns-in_err-frame-clause-only
returns-in_err-frame-clause-only c = written_as_read

pub returns-clause-written : goal.returns-clause-written
returns-clause-written c = read_as_written

pub returns-clause-only : goal.returns-clause-only
returns-clause-only c = written_as_read
