use Rattle.std.proofs.Common.{◌≡◌, List, [], ◌∷◌, ◌++◌, map, length, sym, ap, subst, ◌∙◌, append_assoc, arith, All}
use Rattle.std.specs.Vec.Iter.{into_iter_items}
use Rattle.std.proofs.lemmas.List.{map_push}
use Rattle.std.proofs.lemmas.List.Elements.{All-push}
use Rattle.ix_text.specs.Docs.{named_text}
use Rattle.ix_build.specs.SavingMakers.{IsSavingMakerOf, store_of}
use Rattle.ix_build.specs.declared.saving_maker.SavingMaker.{SavingMaker}
use Rattle.ix_build.proofs.save.makers_over.Goals as goal

pub loop-store-preserved : goal.loop-store-preserved
loop-store-preserved g c =
    let inv = c.loop-store.invariant in
    let M = SavingMaker g.row.T.Denot in
    let step = c.in-Some.ensures.steps in
    let rest = into_iter_items c.next.new.self in
    let old = c.loop-store.makers.items in
    let maker : M = record { inverter = c.new-inverter.result; store = c.in-Some.store } in
    let Mine : M → Type 0 = IsSavingMakerOf (map named_text c.args.docs.now) c.args.stop.now c.args.bounds.now in
    let counted = ap length step.0 in
    let pushed : c.push_reserved.new.self.items ≡ old ++ maker ∷ [] = c.push_reserved.ensures.items in
    record {
      told =
          inv.told ∙ ap (λ l. map store_of old ++ l) step.0 ∙ sym (append_assoc (map store_of old) (c.in-Some.store ∷ []) rest)
          ∙ ap (λ l. l ++ rest) (sym (map_push store_of old maker)) ∙ ap (λ (l : List M). map store_of l ++ rest) (sym pushed);
      each =
          subst (All Mine) (sym pushed)
          (All-push Mine old maker inv.each (record { texts_are = ap (map named_text) c.new-inverter.ensures.documents; stop_is = c.new-inverter.ensures.stop; bounds_are = c.new-inverter.ensures.bounds }));
      room = let room = inv.room in omega (arith, room, counted, c.push_reserved.ensures.len, c.push_reserved.ensures.capacity);
    }
