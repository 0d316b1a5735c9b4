use Rattle.std.proofs.Common.{◌∙◌, ◌⊎◌, ℕ, List, OnErr, OnOk, subst}
use Rattle.pc_generations.specs.Folders.{IsCurrentGeneration, IsUnbegun, next_of}
use Rattle.pc_bases.specs.Texts.{base_text}
use Rattle.pc_opening.proofs.opening.begin_texts.Goals as goal

pub returns-clause-begun : goal.returns-clause-begun
returns-clause-begun g c = λ is.
    let stands = g.G.Generations.stands c.begin_generation.new.folders in
    let Base : List ℕ → Type 0 = λ text. OnOk c.begin_generation.result (IsCurrentGeneration stands (next_of c.args.latest) text c.deref-2.result.now) in
    let Log : List ℕ → Type 0 = λ text. OnOk c.begin_generation.result (IsCurrentGeneration stands (next_of c.args.latest) (base_text c.args.base.now) text) in
    subst Log (c.deref-2.ensures.value ∙ c.in-Ok.ensures.texts.1) (subst Base (c.deref.ensures.value ∙ c.in-Ok.ensures.texts.0) (c.begin_generation.ensures.begun is))

pub returns-clause-cut_off : goal.returns-clause-cut_off
returns-clause-cut_off g c = λ is.
    let old = g.G.Generations.stands c.args.folders.now in
    let stands = g.G.Generations.stands c.begin_generation.new.folders in
    let Base : List ℕ → Type 0 = λ text. OnErr c.begin_generation.result (IsCurrentGeneration stands (next_of c.args.latest) text c.deref-2.result.now ⊎ IsUnbegun old stands c.args.latest) in
    let Log : List ℕ → Type 0 = λ text. OnErr c.begin_generation.result (IsCurrentGeneration stands (next_of c.args.latest) (base_text c.args.base.now) text ⊎ IsUnbegun old stands c.args.latest) in
    subst Log (c.deref-2.ensures.value ∙ c.in-Ok.ensures.texts.1) (subst Base (c.deref.ensures.value ∙ c.in-Ok.ensures.texts.0) (c.begin_generation.ensures.cut_off is))
