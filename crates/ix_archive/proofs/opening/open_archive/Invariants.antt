use Rattle.ix_archive.proofs.OpenLemmas.{NotTried}
use Rattle.ix_archive.proofs.opening.open_archive.Given as goal

abbrev pub invariant-loop : goal.invariant-loop
invariant-loop g l = NotTried (g.F.Files.view l.files) l.path l.counter l.text.items
