use Rattle.pc_log.specs.Texts.{header_text}
use Rattle.pc_border.proofs.open_store.OpenStore.show_header.Goals as goal

pub returns : goal.returns
returns c = c.show.ensures (header_text c.args.self.now.world.base.run) c.header_bytes-text.ensures
