use Rattle.std.specs.Prelude.{◌≡◌, is_some}
use Rattle.pc_types.specs.declared.Phase.TheVariants.{Rest}
use Rattle.pc_model.specs.History.{History, phase_of}
use Rattle.pc_workers.specs.Checkpointing.{HasCycled}
use Rattle.pc_threads.specs.Files.{HasWritten, RefusedBy, RefusesNoMore}
use Rattle.pc_threads.proofs.points.take_points.Given as goal

-- the points so far are taken, and written if there is a folder
abbrev pub invariant-loop-others : goal.invariant-loop-others
invariant-loop-others g l = record {
  there : is_some l.checkpointer.folder ≡ is_some l.fn.checkpointer.folder;
  refusals : RefusesNoMore (RefusedBy g.D.NewFiles.refuses l.fn.checkpointer.folder) (RefusedBy g.D.NewFiles.refuses l.checkpointer.folder);
  rest : phase_of l.checkpointer.at_store ≡ Rest;
  cycles : (first : History) → HasCycled g.N.StoreName.name.setting l.fn.taken first l.fn.checkpointer.at_store → HasCycled g.N.StoreName.name.setting l.others first l.checkpointer.at_store;
  written : (first : _) → HasWritten g.D.NewFiles.holds l.fn.taken first l.fn.checkpointer.folder l.fn.checkpointer.written.items
      → HasWritten g.D.NewFiles.holds l.others first l.checkpointer.folder l.checkpointer.written.items;
}
