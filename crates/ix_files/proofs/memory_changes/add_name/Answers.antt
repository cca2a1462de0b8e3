use Rattle.std.proofs.Common.{string_bytes, ◌∙◌}
use Rattle.ix_files.proofs.Listing.{added_name, kept_names}
use Rattle.ix_files.proofs.memory_changes.add_name.Goals as goal

pub returns : goal.returns
returns c = record {
  keeps = kept_names string_bytes c.args.names.now.items c.push.new.self.items c.in_ok-from_str.field-0 c.in_ok-push.ensures.items;
  adds = λ inside there. added_name string_bytes c.args.names.now.items c.push.new.self.items c.in_ok-from_str.field-0 c.in_ok-push.ensures.items _ (c.in_ok-from_str.ensures.ok ∙ c.name-2.ensures);
}
