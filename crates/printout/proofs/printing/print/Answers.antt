use Rattle.printout.proofs.Decimals.{reads_back}
use Rattle.printout.proofs.printing.print.Goals as goal

pub returns-then-buffer-lt-LEAST-clause-numbers : goal.returns-then-buffer-lt-LEAST-clause-numbers
returns-then-buffer-lt-LEAST-clause-numbers c = reads_back

pub returns-then-reason-gt-LONGEST-clause-numbers : goal.returns-then-reason-gt-LONGEST-clause-numbers
returns-then-reason-gt-LONGEST-clause-numbers c = reads_back

pub returns-clause-numbers : goal.returns-clause-numbers
returns-clause-numbers c = reads_back
