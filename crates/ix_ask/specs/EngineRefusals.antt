-- The refusals of the engine: the area that each of them is told in, its number there, and the line that is printed.
use Rattle.std.specs.Prelude.{ℕ, List, ◌++◌, Option, Some, option_map, codes, decimal}
use Rattle.ix_build.specs.BuildErrors.{build_error_name, build_error_number}
use Rattle.ix_file.specs.OpenErrors.{open_error_name, open_error_number}
use Rattle.ix_gram.specs.PatternErrors.{name_of as pattern_error_name, number_of as pattern_error_number}
use Rattle.ix_merge.specs.MergeErrors.{merge_error_name, merge_error_number}
use Rattle.ix_query.specs.ErrorNames.{name_of as query_error_name}
use Rattle.ix_query.specs.QueryErrors.{number_of as query_error_number}
use Rattle.ix_run.specs.Errors.{run_error_name, run_error_number}
use Rattle.ix_run.specs.RunTextErrors.{run_text_error_name}
use Rattle.ix_text.specs.CollectionErrors.{collection_error_name, collection_error_number}
use Rattle.ix_text.specs.StopErrors.{stop_error_name, stop_error_number}
use Rattle.ix_ask.specs.declared.refusal.Area.{Area}
use Rattle.ix_ask.specs.declared.refusal.Area.TheVariants as area
use Rattle.ix_ask.specs.declared.refusal.EngineRefusal.{EngineRefusal}
use Rattle.ix_ask.specs.declared.refusal.EngineRefusal.TheVariants as engine

-- an area's place in the list of areas, from 1
abbrev pub area_number : Area → ℕ
area_number area.Collection = 1
area_number area.Stop = 2
area_number area.Query = 3
area_number area.Pattern = 4
area_number area.Index = 5
area_number area.Run = 6
area_number area.Merge = 7
area_number area.Build = 8
area_number area.Memory = 9

-- the area of the layer whose error it is
abbrev pub area_of : EngineRefusal → Area
area_of (engine.Collection error) = area.Collection
area_of (engine.Stop error) = area.Stop
area_of (engine.Query error) = area.Query
area_of (engine.Pattern error) = area.Pattern
area_of (engine.Index error) = area.Index
area_of (engine.Run error) = area.Run
area_of (engine.Merge error) = area.Merge
area_of (engine.Build error) = area.Build
area_of engine.Memory = area.Memory

-- the number of the error in the list of its layer
abbrev pub number_of : EngineRefusal → ℕ
number_of (engine.Collection error) = collection_error_number error
number_of (engine.Stop error) = stop_error_number error
number_of (engine.Query error) = query_error_number error
number_of (engine.Pattern error) = pattern_error_number error
number_of (engine.Index error) = open_error_number error
number_of (engine.Run error) = run_error_number error
number_of (engine.Merge error) = merge_error_number error
number_of (engine.Build error) = build_error_number error
number_of engine.Memory = 1

-- an error of an area, by its number in the area's list and its name
abbrev pub error_text : List ℕ → ℕ → List ℕ → List ℕ
error_text area number name = area ++ (decimal number ++ (codes ": " ++ name))

-- area, number and name
abbrev pub line_of : EngineRefusal → Option (List ℕ)
line_of (engine.Collection error) = Some (error_text (codes "collection ") (collection_error_number error) (collection_error_name error))
line_of (engine.Stop error) = Some (error_text (codes "stop ") (stop_error_number error) (stop_error_name error))
line_of (engine.Query error) = Some (error_text (codes "query ") (query_error_number error) (query_error_name error))
line_of (engine.Pattern error) = Some (error_text (codes "pattern ") (pattern_error_number error) (pattern_error_name error))
line_of (engine.Index error) = Some (error_text (codes "index ") (open_error_number error) (open_error_name error))
line_of (engine.Run error) = Some (error_text (codes "run ") (run_error_number error) (run_error_name error))
line_of (engine.Merge error) =
    option_map (error_text (codes "merge ") (merge_error_number error)) (merge_error_name (λ fault. Some (run_text_error_name fault)) error)
line_of (engine.Build error) = Some (error_text (codes "build ") (build_error_number error) (build_error_name error))
line_of engine.Memory = Some (codes "memory 1: Memory")
