use Rattle.std.proofs.Common.{◌≡◌, ℕ, List, string_bytes, ap}
use Rattle.ix_lookup.specs.FoundTerms.{PlacedListing}
use Rattle.ix_lookup.proofs.find.add.Goals as goal

pub returns : goal.returns
returns c =
    let at : List ℕ → PlacedListing = λ term. record { listing = record { term = term; documents = c.args.row.now.documents; size = c.args.row.now.size }; start = c.args.start } in
    let same : string_bytes c.in_ok-from_str.field-0 ≡ c.args.term.now = c.in_ok-from_str.ensures.ok in
    record { one = _; pushed = c.in_ok-push.ensures.items; placed = ap at same }
