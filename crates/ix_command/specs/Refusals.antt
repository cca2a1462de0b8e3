-- Refusals: what each of them tells, and the line that is printed.
use Rattle.std.specs.Prelude.{◌≡◌, ℕ, ◌⊎◌, ◌/◌, ◌%◌, [], ◌∷◌, ◌++◌, flat_map, Option, Some, IfSome, codes, if◌then◌else◌, encode_utf8, string_bytes}
use Rattle.std.specs.Char.{digit_char, is_control}
use Rattle.std.specs.Str.{chars}
use Rattle.clap.specs.Walk.{Text}
use Rattle.std.specs.Io.KnownBytes.{Appends}
use Rattle.ix_output.specs.Sinks.{AppendsFront}
use Rattle.ix_ask.specs.declared.ask_error.AskError.{AskError}
use Rattle.ix_ask.specs.declared.ask_error.AskError.TheVariants as asking
use Rattle.ix_ask.specs.EngineRefusals.{error_text, line_of}
use Rattle.ix_ask.specs.declared.refusal.EngineRefusal.TheVariants as engine
use Rattle.ix_ask.specs.declared.trust_error.TrustError.{TrustError}
use Rattle.ix_ask.specs.declared.trust_error.TrustError.TheVariants as trusting
use Rattle.ix_archive.specs.ArchiveErrors.{archive_error_name, archive_error_number}
use Rattle.ix_build.specs.Plans.{PlanValue}
use Rattle.ix_live.specs.LiveErrors.{live_error_name, live_error_number}
use Rattle.ix_live.specs.declared.live_error.LiveError.{LiveError}
use Rattle.ix_live.specs.declared.live_error.LiveError.TheVariants as live
use Rattle.ix_script.specs.ScriptErrors.{script_error_name, script_error_number}
use Rattle.ix_script.specs.declared.run_error.RunError.{RunError}
use Rattle.ix_script.specs.declared.run_error.RunError.TheVariants as running
use Rattle.ix_files.specs.declared.file_error.FileError.{FileError}
use Rattle.ix_files.specs.declared.file_error.FileError.TheVariants as file_error
use Rattle.ix_command.specs.declared.refusal.Refusal.{Refusal}
use Rattle.ix_command.specs.declared.refusal.Refusal.TheVariants as refusal

-- ---- what a refusal tells

-- the refusal tells the error in its own area, with what it wraps; what cannot be written is the standard output
abbrev pub Tells : AskError → Refusal → Type 0
Tells (asking.Collection error) told = told ≡ refusal.Engine (engine.Collection error)
Tells (asking.Query error) told = told ≡ refusal.Engine (engine.Query error)
Tells (asking.Pattern error) told = told ≡ refusal.Engine (engine.Pattern error)
Tells (asking.Build error) told = told ≡ refusal.Engine (engine.Build error)
Tells (asking.Open error) told = told ≡ refusal.Engine (engine.Index error)
Tells asking.Write (refusal.Write path) = path.now ≡ codes "-"
Tells asking.Write _ = ⊥
Tells asking.Memory told = told ≡ refusal.Engine engine.Memory

-- the same of a question that trusts the index file of this path
abbrev pub TellsTrusting : Text → TrustError → Refusal → Type 0
TellsTrusting path trusting.Read (refusal.Read named) = named.now ≡ path
TellsTrusting path trusting.Read _ = ⊥
TellsTrusting path (trusting.Ask error) told = Tells error told

-- the same of a live index: what was not built is told as it is of `build`
abbrev pub TellsLive : LiveError → Refusal → Type 0
TellsLive (live.Build error) told = told ≡ refusal.Engine (engine.Build error)
TellsLive error told = told ≡ refusal.Live error

-- the same of the steps of a script; where there is no memory for the path of a file, want of it is told
abbrev pub TellsStep : RunError → Refusal → Type 0
TellsStep (running.Unread path) (refusal.ReadAdded named) = string_bytes named ≡ path.now
TellsStep (running.Unread path) told = told ≡ refusal.Engine engine.Memory
TellsStep (running.Collection error) told = told ≡ refusal.Engine (engine.Collection error)
TellsStep (running.Live error) told = TellsLive error told
TellsStep running.Write (refusal.Write path) = path.now ≡ codes "-"
TellsStep running.Write _ = ⊥
TellsStep running.Memory told = told ≡ refusal.Engine engine.Memory

-- the refusal tells that the file of this path cannot be read, or that memory ran out
abbrev pub IsUnread : Text → Refusal → Type 0
IsUnread path (refusal.Read named) = named.now ≡ path
IsUnread path (refusal.Engine engine.Memory) = Unit {0}
IsUnread path _ = ⊥

-- the refusal tells that the file of this path cannot be written, or that memory ran out
abbrev pub IsUnsaved : Text → Refusal → Type 0
IsUnsaved path (refusal.Write named) = named.now ≡ path
IsUnsaved path (refusal.Engine engine.Memory) = Unit {0}
IsUnsaved path _ = ⊥

-- the refusal tells that the file of this path is also read, or cannot be written
abbrev pub IsSameOrUnsaved : Text → Refusal → Type 0
IsSameOrUnsaved path (refusal.Same named) = named.now ≡ path
IsSameOrUnsaved path told = IsUnsaved path told

-- the refusal tells that the folder of the plan is locked, or that memory ran out
abbrev pub IsFolderLocked : PlanValue → Refusal → Type 0
IsFolderLocked plan (refusal.Locked folder) = plan.folder ≡ Some (string_bytes folder)
IsFolderLocked plan (refusal.Engine engine.Memory) = Unit {0}
IsFolderLocked plan _ = ⊥

-- The refusal tells that the standard output cannot be written, which gained a beginning of the text.
abbrev pub IsUnwritten : Text → Option Text → Option Text → Refusal → Type 0
IsUnwritten text old new (refusal.Write path) = (path.now ≡ codes "-") × AppendsFront old new text
IsUnwritten text old new _ = ⊥

-- the refusal says which of both it was, as the error says
abbrev pub TellsUnsaved : Text → FileError → Refusal → Type 0
TellsUnsaved path file_error.Memory told = told ≡ refusal.Engine engine.Memory
TellsUnsaved path error (refusal.Write named) = named.now ≡ path
TellsUnsaved path error _ = ⊥

abbrev pub TellsUnread : Text → FileError → Refusal → Type 0
TellsUnread path file_error.Memory told = told ≡ refusal.Engine engine.Memory
TellsUnread path error (refusal.Read named) = named.now ≡ path
TellsUnread path error _ = ⊥

-- ---- its line

-- what the engine refused, as it tells it; and the refusals of files and of words
abbrev pub text_of : Refusal → Option Text
text_of refusal.Arguments = Some (codes "arguments refused")
text_of (refusal.Engine told) = line_of told
text_of (refusal.Read path) = Some (codes "file 1: Read(" ++ path.now ++ codes ")")
text_of (refusal.ReadAdded path) = Some (codes "file 1: Read(" ++ string_bytes path ++ codes ")")
text_of (refusal.Write path) = Some (codes "file 2: Write(" ++ path.now ++ codes ")")
text_of (refusal.NotUtf8 path) = Some (codes "file 3: NotUtf8(" ++ path.now ++ codes ")")
text_of (refusal.Same path) = Some (codes "file 4: Same(" ++ path.now ++ codes ")")
text_of (refusal.Locked path) = Some (codes "file 5: Locked(" ++ string_bytes path ++ codes ")")
text_of (refusal.Script error) = Some (error_text (codes "script ") (script_error_number error) (script_error_name error))
text_of (refusal.Live error) = Some (error_text (codes "live ") (live_error_number error) (live_error_name error))
text_of (refusal.Archive error) = Some (error_text (codes "archive ") (archive_error_number error) (archive_error_name error))

-- a control character as `\x` and two hexadecimal digits, and any other as it is
abbrev pub shown_char : ℕ → Text
shown_char c =
    if is_control c then codes "\\x" ++ (encode_utf8 (digit_char (c / 16)) ++ encode_utf8 (digit_char (c % 16)))
    else encode_utf8 c

-- the text with its control characters shown
unfoldable pub shown : Text → Text
shown text = flat_map shown_char (chars text)

-- the line of a text
abbrev pub line_with : Text → Text
line_with text = codes "ix: " ++ (shown text ++ 10 ∷ [])

-- the line of the refusal, where its text is stated
abbrev pub IsLineOf : Refusal → Text → Type 0
IsLineOf told line = IfSome (text_of told) (λ text. line ≡ line_with text)

-- the error output gained the line of this refusal, or a beginning of it where a write was refused
pub record GainsLine (told : Refusal) (old new : Option Text) : Type 0 where
  pub line : Text
  pub spelled : IsLineOf told line
  pub gained : AppendsFront old new line

-- the line of want of memory
abbrev pub out_of_memory_line : Text
out_of_memory_line = codes "ix: memory 1: Memory" ++ 10 ∷ []

-- the line of the refusal needs memory: that of a file, and that of words, do not
abbrev pub NeedsMemory : Refusal → Type 0
NeedsMemory (refusal.Engine error) = Unit {0}
NeedsMemory (refusal.Script error) = Unit {0}
NeedsMemory (refusal.Live error) = Unit {0}
NeedsMemory (refusal.Archive error) = Unit {0}
NeedsMemory _ = ⊥

-- The refusal was told; if its line needs memory, and there is none, it is told as out of memory.
abbrev pub IsTold : Refusal → Option Text → Option Text → Type 0
IsTold told old new = GainsLine told old new ⊎ (NeedsMemory told × AppendsFront old new out_of_memory_line)

-- the same, and the whole line is out
abbrev pub IsToldWhole : Refusal → Option Text → Option Text → Type 0
IsToldWhole told old new = ((line : Text) × IsLineOf told line × Appends old new line) ⊎ (NeedsMemory told × Appends old new out_of_memory_line)
