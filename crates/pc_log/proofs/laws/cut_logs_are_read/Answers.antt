use Rattle.pc_log.specs.Texts.{entry_text_in}
use Rattle.pc_log.proofs.CutTextLaws.{header_cut, log_cut}
use Rattle.std.specs.List.{flat_map}
use Rattle.pc_log.proofs.laws.cut_logs_are_read.Goals as goal

pub returns : goal.returns
returns c = λ format run entries n fits lawful has order. (λ cut. header_cut format run (flat_map (entry_text_in format) entries) n fits cut, λ whole. log_cut format run entries n fits lawful has order whole)
