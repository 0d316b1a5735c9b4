use Rattle.pc_bases.proofs.base_encoding.put_head.Goals as goal

pub returns : goal.returns
returns g c = rw (c.write_u64.ensures, c.write_u32.ensures, c.write_u32-2.ensures) at c.put_all.ensures
