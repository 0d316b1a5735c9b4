use Rattle.pc_pairs.specs.Loads.{database_in}
use Rattle.pc_pairs.proofs.LoadLaws.{base_made}
use Rattle.pc_pairs.proofs.loading.load_base.Goals as goal

pub returns-clause-loaded : goal.returns-clause-loaded
returns-clause-loaded c = base_made c.args.run c.in_ok-pairs.pairs.items (database_in c.args.form c.args.text.now) c.base_of.result c.in_ok-pairs.ensures.rise c.in_ok-pairs.ensures.loaded c.base_of.ensures.made c.base_of.ensures.none
