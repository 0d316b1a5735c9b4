use Rattle.pc_log.proofs.encoding.encode_header.Goals as goal

pub returns : goal.returns
returns g c = rw c.write_u64.ensures at c.put_all.ensures
