-- The source that `value_source` reads is that of the row.
use Rattle.std.proofs.Common.{refl}
use Rattle.clap.specs.Words.{found_of}
use Rattle.ix_line.proofs.Rows.{source-rows}
use Rattle.ix_line.proofs.fields.flag.Goals as goal

pub returns-in-Some-CommandLine : goal.returns-in-Some-CommandLine
returns-in-Some-CommandLine c = (λ _. cc (source-rows (found_of c.args.matches.now) c.args.id.now), λ _. refl)

pub returns-in-Some-DefaultValue : goal.returns-in-Some-DefaultValue
returns-in-Some-DefaultValue c = (λ no. cc, λ given. cc (source-rows (found_of c.args.matches.now) c.args.id.now))

pub returns-in-None : goal.returns-in-None
returns-in-None c = (λ no. cc, λ given. cc (source-rows (found_of c.args.matches.now) c.args.id.now))
