-- The blocks of the plan's cut were saved and read back, and one after another they are the collection.
use Rattle.std.proofs.Common.{◌≡◌, ℕ, List, length, map, refl, sym, subst, arith}
use Rattle.std.specs.Prelude.{Some, slice_get, slice_set}
use Rattle.std.proofs.lemmas.Option.{slice_get_read}
use Rattle.std.proofs.lemmas.Result.{IfErr-at_err, IfErr-weaker, IfOk-at_ok, on_err_weaker, on_ok_weaker}
use Rattle.ix_run.specs.Heads.{Heading, heading_of}
use Rattle.ix_run.specs.RunHead.{RunHead}
use Rattle.ix_text.specs.Collections.{NamedText, collection_of}
use Rattle.ix_text.specs.Docs.{named_text}
use Rattle.ix_build.specs.BuiltOver.{FailsOver}
use Rattle.ix_build.specs.KeptHeadings.{IsHeadingOfBlock}
use Rattle.ix_build.specs.OwnParts.{LeavesOwnPart}
use Rattle.ix_build.specs.ReadBack.{ComesOfMerging, LeavesReadBackPart, TellsCause}
use Rattle.ix_build.specs.SavedBlocks.{AreHeadsOf, FailsToSave}
use Rattle.ix_build.specs.Stores.{AreSaved, CountsMore, HasRefused}
use Rattle.ix_build.specs.declared.build_error.BuildError.TheVariants.{Write}
use Rattle.ix_build.proofs.SavedWork.{not_begun}
use Rattle.ix_build.proofs.UnreadLemmas.{tells_cause}
use Rattle.ix_build.proofs.WholeBuild.{bounds_found, some_bound}
use Rattle.ix_build.proofs.WholeOver.{as_many_heads, blocks_saved, fails_merging, fails_saving, few_tokens, gives_as_before, keeps_itself, kept_of_blocks, over_alike, over_exact, over_left, over_merge, over_runs, over_unfinished, refused_reading, saving_caused}
use Rattle.ix_build.proofs.over_stores.build_over.Goals as goal

-- the heads that were saved are those of the collection's blocks
heads_found : (texts given : List NamedText) (stop : List (List ℕ)) (bounds : List ℕ) (heads shown : List RunHead) → texts ≡ given → shown ≡ heads → AreHeadsOf texts stop bounds heads → AreHeadsOf given stop bounds shown
heads_found texts given stop bounds heads shown same_texts same are =
    subst (λ t. AreHeadsOf t stop bounds shown) same_texts (subst (AreHeadsOf texts stop bounds) (sym same) are)

pub returns-in_default-clause-failed : goal.returns-in_default-clause-failed
returns-in_default-clause-failed g c = not_begun g.T.RunStore.places g.T.RunStore.refusals g.T.RunStore.back c.args.stores.items

pub block_count-count-requires : goal.block_count-count-requires
block_count-count-requires g c =
    let are = bounds_found c.cut.result c.args.plan.now.cut (map named_text c.docs-docs.result.now) c.args.collection.now c.in-Ok.bounds.items c.as_slice-bounds.result.now c.cut.ensures.cut c.docs-docs.ensures.documents c.as_slice-bounds.ensures.value c.in-Ok.ensures.bounds in
    some_bound c.args.plan.now.cut c.args.collection.now c.as_slice-bounds.result.now are

pub returns-in-Err-clause-failed : goal.returns-in-Err-clause-failed
returns-in-Err-clause-failed g c =
    let are = bounds_found c.cut.result c.args.plan.now.cut (map named_text c.docs-docs.result.now) c.args.collection.now c.in-Ok.bounds.items c.as_slice-bounds.result.now c.cut.ensures.cut c.docs-docs.ensures.documents c.as_slice-bounds.ensures.value c.in-Ok.ensures.bounds in
    let places = g.T.RunStore.places in
    let refusals = g.T.RunStore.refusals in
    let back = g.T.RunStore.back in
    let stores = c.args.stores.items in
    let after = c.save_blocks-stores.result.stores.items in
    let before = g.W.Write.contents c.args.out.now in
    let count = c.block_count-count.result in
    let fails = IfErr-at_err (FailsToSave places refusals back stores count after) c.in-Err.is c.save_blocks-stores.ensures.failed in
    fails_saving c.args.plan.now.cut c.args.collection.now c.as_slice-bounds.result.now are count c.block_count-count.ensures places refusals back stores after before before c.in-Err.error (keeps_itself before) fails

pub merge_saved-result-requires-after_bounds : goal.merge_saved-result-requires-after_bounds
merge_saved-result-requires-after_bounds g c =
    let cut = c.args.plan.now.cut in
    let texts = c.args.collection.now in
    let stop = c.args.stop.now in
    let bounds = c.as_slice-bounds.result.now in
    let are = bounds_found c.cut.result cut (map named_text c.docs-docs.result.now) texts c.in-Ok.bounds.items bounds c.cut.ensures.cut c.docs-docs.ensures.documents c.as_slice-bounds.ensures.value c.in-Ok.ensures.bounds in
    let count = c.block_count-count.result in
    let before = g.W.Write.contents c.args.out.now in
    let heads = c.as_slice.result.now in
    let saved_heads = IfOk-at_ok (λ kept. AreHeadsOf (map named_text c.docs-docs.result.now) stop bounds kept.items) c.in-Ok-result.is c.save_blocks-stores.ensures.heads in
    let of_blocks = heads_found (map named_text c.docs-docs.result.now) texts stop bounds c.in-Ok-result.heads.items heads c.docs-docs.ensures.documents c.as_slice.ensures.value saved_heads in
    λ lives bounded. over_merge cut texts bounds are count c.block_count-count.ensures stop heads of_blocks before before (few_tokens stop texts c.docs-docs.ensures.small)

pub returns-clause-written : goal.returns-clause-written
returns-clause-written g c =
    let cut = c.args.plan.now.cut in
    let texts = c.args.collection.now in
    let stop = c.args.stop.now in
    let bounds = c.as_slice-bounds.result.now in
    let are = bounds_found c.cut.result cut (map named_text c.docs-docs.result.now) texts c.in-Ok.bounds.items bounds c.cut.ensures.cut c.docs-docs.ensures.documents c.as_slice-bounds.ensures.value c.in-Ok.ensures.bounds in
    let count = c.block_count-count.result in
    let before = g.W.Write.contents c.args.out.now in
    let heads = c.as_slice.result.now in
    let saved_heads = IfOk-at_ok (λ kept. AreHeadsOf (map named_text c.docs-docs.result.now) stop bounds kept.items) c.in-Ok-result.is c.save_blocks-stores.ensures.heads in
    let of_blocks = heads_found (map named_text c.docs-docs.result.now) texts stop bounds c.in-Ok-result.heads.items heads c.docs-docs.ensures.documents c.as_slice.ensures.value saved_heads in
    let now = g.W.Write.contents c.merge_saved-result.new.out in
    on_ok_weaker c.merge_saved-result.result
    (over_alike cut texts bounds are count c.block_count-count.ensures stop heads of_blocks before now g.T.Reader.Read.remaining (g.T.RunStore.back c.index_mut.result.now))
    c.merge_saved-result.ensures.written

pub returns-clause-exact : goal.returns-clause-exact
returns-clause-exact g c =
    let cut = c.args.plan.now.cut in
    let texts = c.args.collection.now in
    let stop = c.args.stop.now in
    let bounds = c.as_slice-bounds.result.now in
    let are = bounds_found c.cut.result cut (map named_text c.docs-docs.result.now) texts c.in-Ok.bounds.items bounds c.cut.ensures.cut c.docs-docs.ensures.documents c.as_slice-bounds.ensures.value c.in-Ok.ensures.bounds in
    let count = c.block_count-count.result in
    let before = g.W.Write.contents c.args.out.now in
    let heads = c.as_slice.result.now in
    let saved_heads = IfOk-at_ok (λ kept. AreHeadsOf (map named_text c.docs-docs.result.now) stop bounds kept.items) c.in-Ok-result.is c.save_blocks-stores.ensures.heads in
    let of_blocks = heads_found (map named_text c.docs-docs.result.now) texts stop bounds c.in-Ok-result.heads.items heads c.docs-docs.ensures.documents c.as_slice.ensures.value saved_heads in
    let now = g.W.Write.contents c.merge_saved-result.new.out in
    let places = g.T.RunStore.places in
    let refusals = g.T.RunStore.refusals in
    let back = g.T.RunStore.back in
    let stores = c.args.stores.items in
    let after = c.save_blocks-stores.result.stores.items in
    let store = c.index_mut.result.now in
    let saved = IfOk-at_ok (λ kept. AreSaved places refusals back stores count after) c.in-Ok-result.is c.save_blocks-stores.ensures.saved in
    let many = saved.came_back.as_many in
    let at : slice_get after 0 ≡ Some store = slice_get_read after _ 0 store refl (omega (arith, many, c.args.stores.ok.0, c.requires, c.workers-workers.ensures.workers, c.workers-workers.ensures.few.0)) c.index_mut.ensures.value in
    on_ok_weaker c.merge_saved-result.result
    (λ written first is_first tell gives.
    over_exact cut texts bounds are count c.block_count-count.ensures stop heads of_blocks before now g.T.Reader.Read.remaining (back store) tell
    (gives_as_before cut texts bounds are count c.block_count-count.ensures places refusals back stores after store c.merge_saved-result.new.store at saved c.merge_saved-result.ensures.store stop first is_first gives)
    written)
    c.merge_saved-result.ensures.written

pub returns-clause-saved : goal.returns-clause-saved
returns-clause-saved g c =
    let cut = c.args.plan.now.cut in
    let texts = c.args.collection.now in
    let bounds = c.as_slice-bounds.result.now in
    let are = bounds_found c.cut.result cut (map named_text c.docs-docs.result.now) texts c.in-Ok.bounds.items bounds c.cut.ensures.cut c.docs-docs.ensures.documents c.as_slice-bounds.ensures.value c.in-Ok.ensures.bounds in
    let count = c.block_count-count.result in
    let places = g.T.RunStore.places in
    let refusals = g.T.RunStore.refusals in
    let back = g.T.RunStore.back in
    let stores = c.args.stores.items in
    let after = c.save_blocks-stores.result.stores.items in
    let store = c.index_mut.result.now in
    let saved = IfOk-at_ok (λ kept. AreSaved places refusals back stores count after) c.in-Ok-result.is c.save_blocks-stores.ensures.saved in
    let many = saved.came_back.as_many in
    let at : slice_get after 0 ≡ Some store = slice_get_read after _ 0 store refl (omega (arith, many, c.args.stores.ok.0, c.requires, c.workers-workers.ensures.workers, c.workers-workers.ensures.few.0)) c.index_mut.ensures.value in
    let all = blocks_saved cut texts bounds are count c.block_count-count.ensures places refusals back stores after store c.merge_saved-result.new.store at saved c.merge_saved-result.ensures.store in
    on_ok_weaker c.merge_saved-result.result (λ written. all) c.merge_saved-result.ensures.written

pub returns-clause-failed : goal.returns-clause-failed
returns-clause-failed g c =
    let cut = c.args.plan.now.cut in
    let texts = c.args.collection.now in
    let stop = c.args.stop.now in
    let bounds = c.as_slice-bounds.result.now in
    let are = bounds_found c.cut.result cut (map named_text c.docs-docs.result.now) texts c.in-Ok.bounds.items bounds c.cut.ensures.cut c.docs-docs.ensures.documents c.as_slice-bounds.ensures.value c.in-Ok.ensures.bounds in
    let count = c.block_count-count.result in
    let before = g.W.Write.contents c.args.out.now in
    let heads = c.as_slice.result.now in
    let saved_heads = IfOk-at_ok (λ kept. AreHeadsOf (map named_text c.docs-docs.result.now) stop bounds kept.items) c.in-Ok-result.is c.save_blocks-stores.ensures.heads in
    let of_blocks = heads_found (map named_text c.docs-docs.result.now) texts stop bounds c.in-Ok-result.heads.items heads c.docs-docs.ensures.documents c.as_slice.ensures.value saved_heads in
    let now = g.W.Write.contents c.merge_saved-result.new.out in
    let places = g.T.RunStore.places in
    let refusals = g.T.RunStore.refusals in
    let back = g.T.RunStore.back in
    let stores = c.args.stores.items in
    let after = c.save_blocks-stores.result.stores.items in
    let store = c.index_mut.result.now in
    let saved = IfOk-at_ok (λ kept. AreSaved places refusals back stores count after) c.in-Ok-result.is c.save_blocks-stores.ensures.saved in
    let many = saved.came_back.as_many in
    let at : slice_get after 0 ≡ Some store = slice_get_read after _ 0 store refl (omega (arith, many, c.args.stores.ok.0, c.requires, c.workers-workers.ensures.workers, c.workers-workers.ensures.few.0)) c.index_mut.ensures.value in
    let Fails = FailsOver places refusals back cut texts stores (slice_set after 0 c.merge_saved-result.new.store) before now in
    IfErr-weaker c.merge_saved-result.result (ComesOfMerging (length heads)) Fails
    (λ error comes.
    fails_merging cut texts bounds are count c.block_count-count.ensures places refusals back stores after store c.merge_saved-result.new.store at saved c.merge_saved-result.ensures.store before now error
    (subst (λ (n : ℕ). ComesOfMerging n error) (as_many_heads cut texts bounds are count c.block_count-count.ensures stop heads of_blocks before now) comes))
    c.merge_saved-result.ensures.refused

pub returns-clause-front : goal.returns-clause-front
returns-clause-front g c =
    let cut = c.args.plan.now.cut in
    let texts = c.args.collection.now in
    let stop = c.args.stop.now in
    let bounds = c.as_slice-bounds.result.now in
    let are = bounds_found c.cut.result cut (map named_text c.docs-docs.result.now) texts c.in-Ok.bounds.items bounds c.cut.ensures.cut c.docs-docs.ensures.documents c.as_slice-bounds.ensures.value c.in-Ok.ensures.bounds in
    let count = c.block_count-count.result in
    let before = g.W.Write.contents c.args.out.now in
    let heads = c.as_slice.result.now in
    let saved_heads = IfOk-at_ok (λ kept. AreHeadsOf (map named_text c.docs-docs.result.now) stop bounds kept.items) c.in-Ok-result.is c.save_blocks-stores.ensures.heads in
    let of_blocks = heads_found (map named_text c.docs-docs.result.now) texts stop bounds c.in-Ok-result.heads.items heads c.docs-docs.ensures.documents c.as_slice.ensures.value saved_heads in
    let now = g.W.Write.contents c.merge_saved-result.new.out in
    on_err_weaker c.merge_saved-result.result (over_left cut texts bounds are count c.block_count-count.ensures stop heads of_blocks before now) c.merge_saved-result.ensures.front

pub returns-clause-unfinished : goal.returns-clause-unfinished
returns-clause-unfinished g c = λ first is_first tell gives.
    let cut = c.args.plan.now.cut in
    let texts = c.args.collection.now in
    let stop = c.args.stop.now in
    let bounds = c.as_slice-bounds.result.now in
    let are = bounds_found c.cut.result cut (map named_text c.docs-docs.result.now) texts c.in-Ok.bounds.items bounds c.cut.ensures.cut c.docs-docs.ensures.documents c.as_slice-bounds.ensures.value c.in-Ok.ensures.bounds in
    let count = c.block_count-count.result in
    let before = g.W.Write.contents c.args.out.now in
    let heads = c.as_slice.result.now in
    let saved_heads = IfOk-at_ok (λ kept. AreHeadsOf (map named_text c.docs-docs.result.now) stop bounds kept.items) c.in-Ok-result.is c.save_blocks-stores.ensures.heads in
    let of_blocks = heads_found (map named_text c.docs-docs.result.now) texts stop bounds c.in-Ok-result.heads.items heads c.docs-docs.ensures.documents c.as_slice.ensures.value saved_heads in
    let now = g.W.Write.contents c.merge_saved-result.new.out in
    let remaining = g.T.Reader.Read.remaining in
    let places = g.T.RunStore.places in
    let refusals = g.T.RunStore.refusals in
    let back = g.T.RunStore.back in
    let stores = c.args.stores.items in
    let after = c.save_blocks-stores.result.stores.items in
    let store = c.index_mut.result.now in
    let saved = IfOk-at_ok (λ kept. AreSaved places refusals back stores count after) c.in-Ok-result.is c.save_blocks-stores.ensures.saved in
    let many = saved.came_back.as_many in
    let at : slice_get after 0 ≡ Some store = slice_get_read after _ 0 store refl (omega (arith, many, c.args.stores.ok.0, c.requires, c.workers-workers.ensures.workers, c.workers-workers.ensures.few.0)) c.index_mut.ensures.value in
    let given = gives_as_before cut texts bounds are count c.block_count-count.ensures places refusals back stores after store c.merge_saved-result.new.store at saved c.merge_saved-result.ensures.store stop first is_first gives in
    IfErr-weaker c.merge_saved-result.result (λ error. LeavesReadBackPart remaining (back store) (map heading_of heads) before now (error ≡ Write)) (λ error. LeavesOwnPart (collection_of stop texts) before now (error ≡ Write))
    (λ error. over_unfinished cut texts bounds are count c.block_count-count.ensures stop heads of_blocks before now remaining (back store) tell given (error ≡ Write))
    (c.merge_saved-result.ensures.unfinished tell (over_runs cut texts bounds are count c.block_count-count.ensures stop heads of_blocks before now (back store) given))

pub returns-in-Err-clause-caused : goal.returns-in-Err-clause-caused
returns-in-Err-clause-caused g c = λ first is_first.
    let cut = c.args.plan.now.cut in
    let texts = c.args.collection.now in
    let are = bounds_found c.cut.result cut (map named_text c.docs-docs.result.now) texts c.in-Ok.bounds.items c.as_slice-bounds.result.now c.cut.ensures.cut c.docs-docs.ensures.documents c.as_slice-bounds.ensures.value c.in-Ok.ensures.bounds in
    let places = g.T.RunStore.places in
    let refusals = g.T.RunStore.refusals in
    let back = g.T.RunStore.back in
    let stores = c.args.stores.items in
    let after = c.save_blocks-stores.result.stores.items in
    let count = c.block_count-count.result in
    let fails = IfErr-at_err (FailsToSave places refusals back stores count after) c.in-Err.is c.save_blocks-stores.ensures.failed in
    saving_caused cut texts c.as_slice-bounds.result.now are count c.block_count-count.ensures places refusals back g.T.Reader.Read.remaining (IsHeadingOfBlock cut texts c.args.stop.now) (back first) stores after
    (g.W.Write.contents c.args.out.now) c.in-Err.error fails

pub returns-clause-caused : goal.returns-clause-caused
returns-clause-caused g c = λ first is_first.
    let cut = c.args.plan.now.cut in
    let texts = c.args.collection.now in
    let stop = c.args.stop.now in
    let bounds = c.as_slice-bounds.result.now in
    let are = bounds_found c.cut.result cut (map named_text c.docs-docs.result.now) texts c.in-Ok.bounds.items bounds c.cut.ensures.cut c.docs-docs.ensures.documents c.as_slice-bounds.ensures.value c.in-Ok.ensures.bounds in
    let heads = c.as_slice.result.now in
    let saved_heads = IfOk-at_ok (λ kept. AreHeadsOf (map named_text c.docs-docs.result.now) stop bounds kept.items) c.in-Ok-result.is c.save_blocks-stores.ensures.heads in
    let of_blocks = heads_found (map named_text c.docs-docs.result.now) texts stop bounds c.in-Ok-result.heads.items heads c.docs-docs.ensures.documents c.as_slice.ensures.value saved_heads in
    let remaining = g.T.Reader.Read.remaining in
    let places = g.T.RunStore.places in
    let refusals = g.T.RunStore.refusals in
    let back = g.T.RunStore.back in
    let stores = c.args.stores.items in
    let after = c.save_blocks-stores.result.stores.items in
    let store = c.index_mut.result.now in
    let new = c.merge_saved-result.new.store in
    let count = c.block_count-count.result in
    let before = g.W.Write.contents c.args.out.now in
    let now = g.W.Write.contents c.merge_saved-result.new.out in
    let saved = IfOk-at_ok (λ kept. AreSaved places refusals back stores count after) c.in-Ok-result.is c.save_blocks-stores.ensures.saved in
    let many = saved.came_back.as_many in
    let at : slice_get after 0 ≡ Some store = slice_get_read after _ 0 store refl (omega (arith, many, c.args.stores.ok.0, c.requires, c.workers-workers.ensures.workers, c.workers-workers.ensures.few.0)) c.index_mut.ensures.value in
    let More = CountsMore (refusals store) (refusals new) in
    let Refused = HasRefused refusals stores (slice_set after 0 new) in
    let Kept : ℕ → Heading → Type 0 = λ place heading. slice_get (map heading_of heads) place ≡ Some heading in
    let Of_block = IsHeadingOfBlock cut texts stop in
    IfErr-weaker c.merge_saved-result.result (TellsCause remaining More Kept (back store) before now) (TellsCause remaining Refused Of_block (back first) before now)
    (λ error told.
    tells_cause remaining More Refused Kept Of_block (back store) (back first)
    (refused_reading cut texts bounds are count c.block_count-count.ensures places refusals back stores after store new at saved c.merge_saved-result.ensures.store first is_first)
    (kept_of_blocks cut texts bounds are count c.block_count-count.ensures stop heads of_blocks before now)
    (λ place bytes. ((saved.came_back.each 0 first store is_first at).keeps place bytes).0)
    before now error told)
    c.merge_saved-result.ensures.caused
