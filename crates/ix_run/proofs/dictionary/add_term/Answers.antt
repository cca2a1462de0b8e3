use Rattle.std.proofs.Common.{◌≡◌, ℕ, ◌+◌, length, ◌∙◌, Option, Some, None, ap, bytes_eq, cond, is_some, string_bytes}
use Rattle.std.proofs.lemmas.Map.Text.{hash_map_updates_text}
use Rattle.std.specs.HashMap.{get_by_text}
use Rattle.std.specs.Map.{update}
use Rattle.ix_run.proofs.Numbering.{numbered_new}
use Rattle.ix_run.proofs.dictionary.add_term.Goals as goal

pub returns : goal.returns
returns c =
    let old = c.args.numbers.now in
    let key = c.in_ok-from_str.field-0 in
    let none : c.in_ok-insert.field-0 ≡ None = c.in_ok-insert.ensures.old ∙ ap (get_by_text old) c.in_ok-from_str.ensures.ok ∙ c.requires in
    numbered_new old c.insert.new.self c.args.term.now c.in-Ok.number c.requires (c.in-Ok.ensures.1 ∙ c.len.ensures.len)
    (c.in_ok-insert.ensures.len ∙ ap (λ (o : Option ℕ). length old.entries + cond (is_some o) 0 1) none)
    (λ other.
    hash_map_updates_text (string_bytes key) old c.insert.new.self (Some c.in-Ok.number) c.in_ok-insert.ensures.updates other
    ∙ ap (λ bytes. update bytes_eq (get_by_text old) bytes (Some c.in-Ok.number) other) c.in_ok-from_str.ensures.ok)
