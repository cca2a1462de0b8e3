-- Where a tree stands, and how many brackets it needs there.
use Rattle.std.specs.Prelude.{ℕ}
use Rattle.ix_query_text.specs.declared.proper.Place.{Place}
use Rattle.ix_query_text.specs.declared.proper.Place.TheVariants.{Alone, BetweenOrs, Operand}
use Rattle.ix_query_text.specs.Proper.{Depths}

-- the depth of a tree at a place
abbrev pub depth_at : Place → Depths → ℕ
depth_at Alone depths = depths.alone
depth_at BetweenOrs depths = depths.between_ors
depth_at Operand depths = depths.operand

-- the brackets around parts with ANDs between them
abbrev pub brackets_of_and : Place → ℕ
brackets_of_and Alone = 0
brackets_of_and BetweenOrs = 0
brackets_of_and Operand = 1

-- the brackets around parts with ORs between them
abbrev pub brackets_of_or : Place → ℕ
brackets_of_or Alone = 0
brackets_of_or BetweenOrs = 1
brackets_of_or Operand = 1
