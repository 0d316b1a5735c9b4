use Rattle.pc_log_lines.proofs.lines.put_entry.Goals as goal

pub returns-in-Commit : goal.returns-in-Commit
returns-in-Commit g c = rw c.in-Commit.is (rw c.as_slice.ensures at c.put_commit.ensures)
