-- Each setting changes its own field alone, and a parse does not read the texts.
use Rattle.std.proofs.Common.{◌∙◌, ap, true}
use Rattle.clap.specs.Simple.{on_top}
use Rattle.ix_line.proofs.Building.{has_no_command_help, takes_no_name, wants_a_command}
use Rattle.ix_line.proofs.commands.program.Goals as goal

pub returns : goal.returns
returns c =
    let bare = takes_no_name _ _ c.no_binary_name.ensures ∙ ap (on_top (λ s. record s { no_binary_name = true })) c.new.ensures.app in
    let helpless = has_no_command_help _ _ c.disable_help_subcommand.ensures ∙ ap (on_top (λ s. record s { disable_help_subcommand = true })) bare in
    wants_a_command _ _ c.subcommand_required.ensures ∙ ap (on_top (λ s. record s { subcommand_required = true })) helpless
