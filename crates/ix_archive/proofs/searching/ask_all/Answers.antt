use Rattle.std.proofs.Common.{rules, arith, ◌≡◌, length}
use Rattle.std.proofs.lemmas.Result.{IfOk-weaker}
use Rattle.ix_archive.proofs.searching.ask_all.Goals as goal

pub returns-clause-each : goal.returns-clause-each
returns-clause-each g c =
    let size : c.len.result ≡ length c.args.opened.now.sources.items = search rules in
    IfOk-weaker c.map_indices.result _ _ (λ parts each place d within. (each place d (omega (arith, size))).1.met) c.map_indices.ensures.each
