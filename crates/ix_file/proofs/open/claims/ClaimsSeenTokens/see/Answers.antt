use Rattle.std.proofs.Common.{◌||◌, not, sym, subst, arith}
use Rattle.ix_file.specs.Claimed.{HasClaimed, HasRoom}
use Rattle.ix_file.specs.declared.open.claims.Claims.{Claims}
use Rattle.ix_file.proofs.ClaimLemmas.{listed_more, listed_room, marked_more, marked_room, room_marked}
use Rattle.ix_file.proofs.open.claims.ClaimsSeenTokens.see.Goals as goal

pub mark-requires : goal.mark-requires
mark-requires c =
    let fits = room_marked c.in-Marked.marks c.in-Marked.doubled c.requires.0 (subst (λ (claims : Claims). HasRoom claims c.requires.0) c.in-Marked.is c.requires.1) in
    let below = c.requires.2 in
    omega arith

pub returns-in-Marked-clause-seen : goal.returns-in-Marked-clause-seen
returns-in-Marked-clause-seen c numbers has may = (
  tt,
  marked_more c.in-Marked.marks c.mark.new.self c.in-Marked.doubled c.mark.result numbers c.args.number
      (subst (λ (claims : Claims). HasClaimed claims numbers) c.in-Marked.is has) (c.mark.ensures.free numbers) (c.mark.ensures.marked numbers),
)

pub returns-in-Marked-clause-room : goal.returns-in-Marked-clause-room
returns-in-Marked-clause-room c top =
    let same = c.mark.ensures.room in (
      λ has.
          let fits = room_marked c.in-Marked.marks c.in-Marked.doubled top (subst (λ (claims : Claims). HasRoom claims top) c.in-Marked.is has) in
          marked_room c.mark.new.self (c.in-Marked.doubled || not c.mark.result) top (omega arith),
      λ has.
          let fits = room_marked c.mark.new.self (c.in-Marked.doubled || not c.mark.result) top has in
          subst (λ (claims : Claims). HasRoom claims top) (sym c.in-Marked.is) (marked_room c.in-Marked.marks c.in-Marked.doubled top (omega arith)),
    )

pub returns-in_err-push-in-Listed-clause-room : goal.returns-in_err-push-in-Listed-clause-room
returns-in_err-push-in-Listed-clause-room c top = (λ has. listed_room c.push.new.self top, λ has. subst (λ (claims : Claims). HasRoom claims top) (sym c.in-Listed.is) (listed_room c.in-Listed.numbers top))

pub returns-in_ok-push-in-Listed-clause-seen : goal.returns-in_ok-push-in-Listed-clause-seen
returns-in_ok-push-in-Listed-clause-seen c numbers has may =
    (tt, listed_more c.in-Listed.numbers c.push.new.self numbers c.args.number (subst (λ (claims : Claims). HasClaimed claims numbers) c.in-Listed.is has) c.in_ok-push-in-Listed.ensures.items)

pub returns-in_ok-push-in-Listed-clause-room : goal.returns-in_ok-push-in-Listed-clause-room
returns-in_ok-push-in-Listed-clause-room c top = (λ has. listed_room c.push.new.self top, λ has. subst (λ (claims : Claims). HasRoom claims top) (sym c.in-Listed.is) (listed_room c.in-Listed.numbers top))
