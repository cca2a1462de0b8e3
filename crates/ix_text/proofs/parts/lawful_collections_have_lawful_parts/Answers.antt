use Rattle.ix_text.proofs.PartsLawful.{lawful_parts}
use Rattle.ix_text.proofs.parts.lawful_collections_have_lawful_parts.Goals as goal

pub returns : goal.returns
returns c = lawful_parts
