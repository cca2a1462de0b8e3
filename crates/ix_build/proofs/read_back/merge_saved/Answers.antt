use Rattle.std.proofs.Common.{◌≡◌, ℕ, List, length, map, sym, ap, subst, inl, arith}
use Rattle.std.specs.Prelude.{Some, slice_get}
use Rattle.std.proofs.lemmas.List.{length-map}
use Rattle.ix_merge.specs.Pieces.{LeavesFront}
use Rattle.ix_merge.specs.Refusals.{IsRefusal}
use Rattle.ix_merge.specs.declared.merge_error.MergeError.TheVariants as merge
use Rattle.ix_run.specs.Heads.{Heading, heading_of}
use Rattle.ix_build.specs.ReadBack.{ComesOfMerging, LeavesReadBackPart, TellsCause, told_of_read_merge}
use Rattle.ix_build.specs.Stores.{CountsMore}
use Rattle.ix_build.specs.declared.build_error.BuildError.{BuildError}
use Rattle.ix_build.specs.declared.build_error.BuildError.TheVariants.{Write}
use Rattle.ix_build.proofs.ReadBackLemmas.{all_unread, each_sure, headings_read, merge_told, read_left}
use Rattle.ix_build.proofs.UnreadLemmas.{passed_on, told_of_merge_fault, told_unwritten}
use Rattle.ix_build.proofs.WholeOver.{keeps_itself}
use Rattle.ix_build.proofs.read_back.merge_saved.Goals as goal

pub merge-requires : goal.merge-requires
merge-requires g c =
    let back = g.T.RunStore.back c.args.store.now in
    let readers = c.in_ok-readers.readers.items in
    record { unread = all_unread g.T.Reader.Read.remaining back (map heading_of c.args.heads.now) readers c.in_ok-readers.ensures.read }

pub of_read_merge-requires : goal.of_read_merge-requires
of_read_merge-requires g c =
    let back = g.T.RunStore.back c.args.store.now in
    let readers = c.in_ok-readers.readers.items in
    let same = headings_read g.T.Reader.Read.remaining back (map heading_of c.args.heads.now) readers c.in_ok-readers.ensures.read in
    c.requires c.in-Err.error (subst (λ (hs : List Heading). IsRefusal hs c.in-Err.error) same c.in-Err.ensures.refused)

pub returns-in-Err-clause-refused : goal.returns-in-Err-clause-refused
returns-in-Err-clause-refused g c =
    let back = g.T.RunStore.back c.args.store.now in
    let headings = map heading_of c.args.heads.now in
    let readers = c.in_ok-readers.readers.items in
    let same = headings_read g.T.Reader.Read.remaining back headings readers c.in_ok-readers.ensures.read in
    let refused = subst (λ (hs : List Heading). IsRefusal hs c.in-Err.error) same c.in-Err.ensures.refused in
    let told = merge_told headings c.in-Err.error refused (c.requires c.in-Err.error refused) in
    subst (λ (e : BuildError). ComesOfMerging (length c.args.heads.now) e) (sym c.of_read_merge.ensures)
    (subst (λ count. ComesOfMerging count (told_of_read_merge c.in-Err.error)) (length-map c.args.heads.now heading_of) told)

pub returns-in-Err-clause-front : goal.returns-in-Err-clause-front
returns-in-Err-clause-front g c =
    let back = g.T.RunStore.back c.args.store.now in
    let readers = c.in_ok-readers.readers.items in
    let same = headings_read g.T.Reader.Read.remaining back (map heading_of c.args.heads.now) readers c.in_ok-readers.ensures.read in
    subst (λ (hs : List Heading). LeavesFront hs (g.W.Write.contents c.args.out.now) (g.W.Write.contents c.merge.new.out)) same c.in-Err.ensures.front

pub returns-in_err-readers-clause-caused : goal.returns-in_err-readers-clause-caused
returns-in_err-readers-clause-caused g c =
    let store = c.args.store.now in
    let refused = CountsMore (g.T.RunStore.refusals store) (g.T.RunStore.refusals c.open_runs.new.store) in
    let headings = map heading_of c.args.heads.now in
    let kept : ℕ → Heading → Type 0 = λ place heading. slice_get headings place ≡ Some heading in
    let before = g.W.Write.contents c.args.out.now in
    let error = c.in_err-readers.field-0.0 in
    let remaining = g.T.Reader.Read.remaining in
    let back = g.T.RunStore.back store in
    passed_on (TellsCause remaining refused kept back before before) c.from_residual.result error c.from_residual.ensures.1
    (told_unwritten remaining refused kept back before before error (keeps_itself before) c.in_err-readers.ensures.caused)

pub returns-in-Err-clause-caused : goal.returns-in-Err-clause-caused
returns-in-Err-clause-caused g c =
    let remaining = g.T.Reader.Read.remaining in
    let store = c.args.store.now in
    let back = g.T.RunStore.back store in
    let refused = CountsMore (g.T.RunStore.refusals store) (g.T.RunStore.refusals c.open_runs.new.store) in
    let headings = map heading_of c.args.heads.now in
    let kept : ℕ → Heading → Type 0 = λ place heading. slice_get headings place ≡ Some heading in
    let before = g.W.Write.contents c.args.out.now in
    let now = g.W.Write.contents c.merge.new.out in
    subst (TellsCause remaining refused kept back before now) (sym c.of_read_merge.ensures)
    (told_of_merge_fault remaining refused kept back before now headings c.in_ok-readers.readers.items c.in_ok-readers.ensures.read c.in-Err.error c.in-Err.ensures.fault)

pub returns-in_err-readers-clause-unfinished : goal.returns-in_err-readers-clause-unfinished
returns-in_err-readers-clause-unfinished g c = λ tell gives.
    let before = g.W.Write.contents c.args.out.now in
    passed_on (λ error. LeavesReadBackPart g.T.Reader.Read.remaining (g.T.RunStore.back c.args.store.now) (map heading_of c.args.heads.now) before before (error ≡ Write))
    c.from_residual.result c.in_err-readers.field-0.0 c.from_residual.ensures.1 (inl (keeps_itself before))

pub returns-in-Err-clause-unfinished : goal.returns-in-Err-clause-unfinished
returns-in-Err-clause-unfinished g c = λ tell gives.
    let remaining = g.T.Reader.Read.remaining in
    let back = g.T.RunStore.back c.args.store.now in
    let heads = c.args.heads.now in
    let headings = map heading_of heads in
    let readers = c.in_ok-readers.readers.items in
    let read = c.in_ok-readers.ensures.read in
    let before = g.W.Write.contents c.args.out.now in
    let now = g.W.Write.contents c.merge.new.out in
    let sure = each_sure remaining back headings readers read tell (λ place bytes within came. gives place bytes (omega (arith, within, length-map heads heading_of)) came) in
    subst (λ (error : BuildError). LeavesReadBackPart remaining back headings before now (error ≡ Write)) (sym c.of_read_merge.ensures)
    (read_left remaining back headings readers read before now (c.in-Err.error ≡ merge.Write) (told_of_read_merge c.in-Err.error ≡ Write) (λ is. ap told_of_read_merge is) (c.in-Err.ensures.unfinished sure))
