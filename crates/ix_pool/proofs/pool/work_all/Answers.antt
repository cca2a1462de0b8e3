use Rattle.std.proofs.Common.{◌≡◌, ℕ, ◌<◌, length, sym, ap, subst, ◌∙◌, arith}
use Rattle.std.specs.Prelude.{IfOk, IfErr}
use Rattle.ix_board.specs.Desks.{fresh_desks}
use Rattle.ix_pool.specs.declared.pool.WorkError.{WorkError}
use Rattle.ix_pool.specs.Outcomes.{IsMade, Fails}
use Rattle.ix_pool.proofs.OutcomeLemmas.{not_begun, no_gap, outcome, all_own_at_end, as_many_desks}
use Rattle.ix_pool.proofs.pool.work_all.Goals as goal

pub returns-in-Err-clause-failed : goal.returns-in-Err-clause-failed
returns-in-Err-clause-failed g c =
    let laws = g.met.M.Maker g.world.𝓛 g.world.𝓜 g.world.𝓡 ((λ s x. x), (λ x. x), (λ x. x), λ x. x) in
    let A = g.M.Maker.askings in
    let G = g.M.Maker.gives in
    let F = g.M.Maker.follows in
    let makers = c.args.makers.items in
    let Told : WorkError → Type 0 = λ error. Fails A G F makers c.args.count makers error in
    subst Told (sym c.in-Err.ensures.memory) (not_begun A G F laws.follows_itself makers)

pub collect-requires-clause-own : goal.collect-requires-clause-own
collect-requires-clause-own g c =
    let A = g.M.Maker.askings in
    let G = g.M.Maker.gives in
    let F = g.M.Maker.follows in
    let board = c.in-Ok.workspace.board in
    let starts = c.args.makers.items in
    let makers = c.in-Ok-work_in_threads.makers.items in
    let desks = c.in-Ok.workspace.desks.items in
    let ends = c.in-Ok-work_in_threads.desks.items in
    let report = c.in-Ok-work_in_threads.report in
    let have = c.in-Ok-work_in_threads.ensures.worked in
    let workers = c.in-Ok.ensures.board.1 in
    let are = c.in-Ok.ensures.desks ∙ ap (fresh_desks {P = g.row.M-Piece.Denot} board) (sym workers) in
    let as_many : length starts ≡ board.workers = omega (arith, c.args.makers.ok.0, c.len.ensures, workers) in
    let some : 0 < length starts = omega (arith, c.args.makers.ok.0, c.requires.0) in
    all_own_at_end A G F board starts makers desks ends report.lowest report.stopped have are some as_many

pub collect-requires-clause-all : goal.collect-requires-clause-all
collect-requires-clause-all g c =
    let A = g.M.Maker.askings in
    let G = g.M.Maker.gives in
    let F = g.M.Maker.follows in
    let board = c.in-Ok.workspace.board in
    let starts = c.args.makers.items in
    let makers = c.in-Ok-work_in_threads.makers.items in
    let desks = c.in-Ok.workspace.desks.items in
    let ends = c.in-Ok-work_in_threads.desks.items in
    let report = c.in-Ok-work_in_threads.report in
    let have = c.in-Ok-work_in_threads.ensures.worked in
    let workers = c.in-Ok.ensures.board.1 in
    let are = c.in-Ok.ensures.desks ∙ ap (fresh_desks {P = g.row.M-Piece.Denot} board) (sym workers) in
    let as_many : length starts ≡ board.workers = omega (arith, c.args.makers.ok.0, c.len.ensures, workers) in
    let some : 0 < length starts = omega (arith, c.args.makers.ok.0, c.requires.0) in
    let all = as_many_desks A G F board starts makers desks ends report.lowest report.stopped have are some as_many in omega (arith, c.in-Ok-work_in_threads.desks.ok.0, all)

pub collect-requires-clause-no_gap : goal.collect-requires-clause-no_gap
collect-requires-clause-no_gap g c =
    let A = g.M.Maker.askings in
    let G = g.M.Maker.gives in
    let F = g.M.Maker.follows in
    let board = c.in-Ok.workspace.board in
    let starts = c.args.makers.items in
    let makers = c.in-Ok-work_in_threads.makers.items in
    let desks = c.in-Ok.workspace.desks.items in
    let ends = c.in-Ok-work_in_threads.desks.items in
    let report = c.in-Ok-work_in_threads.report in
    let have = c.in-Ok-work_in_threads.ensures.worked in
    let workers = c.in-Ok.ensures.board.1 in
    let are = c.in-Ok.ensures.desks ∙ ap (fresh_desks {P = g.row.M-Piece.Denot} board) (sym workers) in
    let as_many : length starts ≡ board.workers = omega (arith, c.args.makers.ok.0, c.len.ensures, workers) in
    let some : 0 < length starts = omega (arith, c.args.makers.ok.0, c.requires.0) in
    no_gap A G F board starts makers desks ends report.lowest report.stopped have are some as_many

pub returns-in-Ok-work_in_threads-clause-made : goal.returns-in-Ok-work_in_threads-clause-made
returns-in-Ok-work_in_threads-clause-made g c =
    let A = g.M.Maker.askings in
    let G = g.M.Maker.gives in
    let F = g.M.Maker.follows in
    let board = c.in-Ok.workspace.board in
    let starts = c.args.makers.items in
    let makers = c.in-Ok-work_in_threads.makers.items in
    let desks = c.in-Ok.workspace.desks.items in
    let ends = c.in-Ok-work_in_threads.desks.items in
    let report = c.in-Ok-work_in_threads.report in
    let have = c.in-Ok-work_in_threads.ensures.worked in
    let workers = c.in-Ok.ensures.board.1 in
    let are = c.in-Ok.ensures.desks ∙ ap (fresh_desks {P = g.row.M-Piece.Denot} board) (sym workers) in
    let as_many : length starts ≡ board.workers = omega (arith, c.args.makers.ok.0, c.len.ensures, workers) in
    let some : 0 < length starts = omega (arith, c.args.makers.ok.0, c.requires.0) in
    let Made : ℕ → Type 0 = λ count. IfOk c.collect.result (λ pieces. IsMade A G F starts count makers pieces.items) in
    subst Made c.in-Ok.ensures.board.0 (outcome A G F board starts makers desks ends report.lowest report.stopped have are some as_many c.collect.result c.collect.ensures).0

pub returns-in-Ok-work_in_threads-clause-failed : goal.returns-in-Ok-work_in_threads-clause-failed
returns-in-Ok-work_in_threads-clause-failed g c =
    let A = g.M.Maker.askings in
    let G = g.M.Maker.gives in
    let F = g.M.Maker.follows in
    let board = c.in-Ok.workspace.board in
    let starts = c.args.makers.items in
    let makers = c.in-Ok-work_in_threads.makers.items in
    let desks = c.in-Ok.workspace.desks.items in
    let ends = c.in-Ok-work_in_threads.desks.items in
    let report = c.in-Ok-work_in_threads.report in
    let have = c.in-Ok-work_in_threads.ensures.worked in
    let workers = c.in-Ok.ensures.board.1 in
    let are = c.in-Ok.ensures.desks ∙ ap (fresh_desks {P = g.row.M-Piece.Denot} board) (sym workers) in
    let as_many : length starts ≡ board.workers = omega (arith, c.args.makers.ok.0, c.len.ensures, workers) in
    let some : 0 < length starts = omega (arith, c.args.makers.ok.0, c.requires.0) in
    let Failed : ℕ → Type 0 = λ count. IfErr c.collect.result (λ error. Fails A G F starts count makers error) in
    subst Failed c.in-Ok.ensures.board.0 (outcome A G F board starts makers desks ends report.lowest report.stopped have are some as_many c.collect.result c.collect.ensures).1
