use Rattle.std.proofs.Common.{◌<◌, sym, subst, ◌∙◌}
use Rattle.ix_board.specs.Desks.{BoardView}
use Rattle.ix_pool.specs.Taking.{TakesPlace}
use Rattle.ix_pool.proofs.WorkLemmas.{no_stint, then_stint, then_unrefused, reserved_stint, took_stint, found_none_stint, made_stint, same_board}
use Rattle.ix_pool.proofs.worker.work.Goals as goal

pub loop-init : goal.loop-init
loop-init g c =
    let laws = g.met.M.Maker g.world.𝓛 g.world.𝓜 g.world.𝓡 ((λ s x. x), (λ x. x), (λ x. x), λ x. x) in
    (tt, tt, c.requires, no_stint g.M.Maker.askings g.M.Maker.gives g.M.Maker.follows laws.follows_itself laws.follows_on c.args.maker c.args.desk)

pub returns-in_default : goal.returns-in_default
returns-in_default g c =
    let laws = g.met.M.Maker g.world.𝓛 g.world.𝓜 g.world.𝓡 ((λ s x. x), (λ x. x), (λ x. x), λ x. x) in
    let A = g.M.Maker.askings in
    let G = g.M.Maker.gives in
    let F = g.M.Maker.follows in
    let itself = laws.follows_itself in
    let on = laws.follows_on in
    let m = c.args.maker in
    let d = c.args.desk in
    let maker = c.reserve.new.self in
    let lowest = c.loop.lowest in
    let reserved = reserved_stint A G F itself on c.loop.maker maker c.loop.desk c.reserve.ensures.askings c.reserve.ensures.gives c.reserve.ensures.follows in
    let with_room = then_unrefused A G F itself on m d c.loop.maker c.loop.desk maker c.loop.desk lowest c.loop.invariant.3 reserved in
    let finds = c.in_default.ensures.none in
    let found = found_none_stint A G F itself on maker c.loop.desk c.next_place.new.desk finds in
    record {
      stint = then_unrefused A G F itself on m d maker c.loop.desk maker c.next_place.new.desk lowest with_room found;
      done = λ _. (finds.held, finds.seen);
    }

pub loop-preserved : goal.loop-preserved
loop-preserved g c =
    let laws = g.met.M.Maker g.world.𝓛 g.world.𝓜 g.world.𝓡 ((λ s x. x), (λ x. x), (λ x. x), λ x. x) in
    let A = g.M.Maker.askings in
    let G = g.M.Maker.gives in
    let F = g.M.Maker.follows in
    let itself = laws.follows_itself in
    let on = laws.follows_on in
    let m = c.args.maker in
    let d = c.args.desk in
    let maker = c.reserve.new.self in
    let made = c.make-made.new.self in
    let lowest = c.loop.lowest in
    let place = c.in-Some-next_place.place in
    let reserved = reserved_stint A G F itself on c.loop.maker maker c.loop.desk c.reserve.ensures.askings c.reserve.ensures.gives c.reserve.ensures.follows in
    let with_room = then_unrefused A G F itself on m d c.loop.maker c.loop.desk maker c.loop.desk lowest c.loop.invariant.3 reserved in
    let takes : TakesPlace c.loop.desk c.next_place.new.desk place = c.in-Some-next_place.ensures.some in
    let took = took_stint A G F itself on maker c.loop.desk c.next_place.new.desk place takes in
    let at_place = then_unrefused A G F itself on m d maker c.loop.desk maker c.next_place.new.desk lowest with_room took in
    let board = same_board c.loop.desk c.next_place.new.desk takes.steps takes.desk_is in
    let Below : BoardView → Type 0 = λ b. place < b.count in
    let one =
    made_stint A G F itself on maker made c.next_place.new.desk c.hand_in.new.desk place c.make-made.result c.hand_in.result takes.held (subst Below (sym board) takes.below) c.make-made.ensures.asked
    c.make-made.ensures.refused c.make-made.ensures.piece c.make-made.ensures.gives c.make-made.ensures.follows c.hand_in.ensures in
    let all = then_stint A G F itself on m d maker c.next_place.new.desk made c.hand_in.new.desk lowest c.hand_in.result c.lower-lowest.result at_place one c.lower-lowest.ensures in (
      tt,
      tt,
      same_board d c.hand_in.new.desk all.steps all.desk_is ∙ c.requires,
      all,
    )
