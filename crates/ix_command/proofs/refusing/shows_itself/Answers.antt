-- At the end no character was a control character.
use Rattle.std.proofs.Common.{◌≡◌, ap, sym, ◌∙◌}
use Rattle.std.specs.Prelude.{encode_utf8, flat_map}
use Rattle.std.specs.Str.{chars}
use Rattle.std.proofs.lemmas.List.{map-id}
use Rattle.std.proofs.lemmas.Str.{encodes-chars}
use Rattle.std.proofs.lemmas.Iterator.{YieldsList-from_chars}
use Rattle.std.proofs.lemmas.Iterator.Consumers.{YieldsList-end}
use Rattle.ix_command.specs.Refusals.{shown, shown_char}
use Rattle.ix_command.proofs.LineLemmas.{encodes_flat}
use Rattle.ix_command.proofs.refusing.shows_itself.Goals as goal

pub returns : goal.returns
unfolding shown
returns c = λ is.
    let all = YieldsList-end (YieldsList-from_chars c.args.text.now c.utf8.text cc) c.loop-c.yielded _ c.loop-c.yielded_by _ _ c.in-None.is c.next.ensures.steps in
    let same : c.loop-c.yielded ≡ chars c.args.text.now = sym (map-id c.loop-c.yielded) ∙ all.0 in
    ap (flat_map shown_char) (sym same) ∙ c.loop-c.invariant ∙ ap (flat_map encode_utf8) same ∙ encodes_flat (chars c.args.text.now) ∙ encodes-chars c.args.text.now c.utf8.text
