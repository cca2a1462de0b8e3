-- The numbers of the errors of a merge, and their names, as they are printed.
use Rattle.std.specs.Prelude.{ℕ, List, ◌++◌, Option, Some, codes, decimal, option_map}
use Rattle.ix_merge.specs.declared.merge_error.MergeError.{MergeError}
use Rattle.ix_merge.specs.declared.merge_error.MergeError.TheVariants.{Gap, Overlap, StopDiffers, Source, TooLarge, Write, Memory}

-- an error's place in the list of a merge's errors, from 1
abbrev pub merge_error_number : {E : Type 0} → MergeError E → ℕ
merge_error_number (Gap document) = 1
merge_error_number (Overlap document) = 2
merge_error_number StopDiffers = 3
merge_error_number (Source place error) = 4
merge_error_number TooLarge = 5
merge_error_number Write = 6
merge_error_number Memory = 7

-- the name of an error, with its number, or with its place and the name of the source's error, in brackets
abbrev pub merge_error_name : {E : Type 0} → (E → Option (List ℕ)) → MergeError E → Option (List ℕ)
merge_error_name name (Gap document) = Some (codes "Gap(" ++ (decimal document ++ codes ")"))
merge_error_name name (Overlap document) = Some (codes "Overlap(" ++ (decimal document ++ codes ")"))
merge_error_name name StopDiffers = Some (codes "StopDiffers")
merge_error_name name (Source place error) = option_map (λ inner. codes "Source(" ++ (decimal place ++ (codes ", " ++ (inner ++ codes ")")))) (name error)
merge_error_name name TooLarge = Some (codes "TooLarge")
merge_error_name name Write = Some (codes "Write")
merge_error_name name Memory = Some (codes "Memory")
