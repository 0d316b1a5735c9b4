use Rattle.pc_pairs.proofs.LoadLaws.{loaded_is, memory_alone, text_again}
use Rattle.pc_pairs.proofs.loading.load_pairs.Goals as goal

pub returns-clause-dumped : goal.returns-clause-dumped
returns-clause-dumped c = λ db all is. loaded_is c.args.form db c.args.text.now (text_again c.args.form db c.args.text.now all is) c.load_lines.result c.load_lines.ensures.loaded

pub returns-clause-memory : goal.returns-clause-memory
returns-clause-memory c = λ db all is. memory_alone c.args.form db c.args.text.now (text_again c.args.form db c.args.text.now all is) c.load_lines.result c.load_lines.ensures.unloaded
