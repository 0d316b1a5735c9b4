-- The transactions that clients have done, piece after piece and client after client.
use Rattle.std.proofs.Common.{◌≡◌, ℕ, suc, ◌+◌, ◌<◌, ◌++◌, List, [], ◌∷◌, length, map, take, drop, get_or, All, refl, sym, ap, subst, ◌∙◌, arith, append_assoc}
use Rattle.std.specs.List.{flat_map, remove}
use Rattle.std.proofs.lemmas.List.{append-nil, take_more}
use Rattle.std.proofs.lemmas.List.Concat.{flat_map-append}
use Rattle.std.proofs.lemmas.List.Elements.{All-append, All-take, All-drop}
use Rattle.pc_model.specs.Replies.{Setting}
use Rattle.pc_jobs.specs.declared.works.Client.{Client}
use Rattle.pc_jobs.specs.declared.works.Fill.{Fill}
use Rattle.pc_jobs.specs.declared.works.Job.{Job}
use Rattle.pc_jobs.specs.declared.works.ClientTask.{ClientTask}
use Rattle.pc_shared.specs.Sitters.{Sitter}
use Rattle.pc_jobs.specs.Jobs.{job_of}
use Rattle.pc_threads.specs.Clients.{AreDone, AreFillsTried, HasDone, HasWorked, HaveWorked, IsTaskDone, IsFresh, clients_in, first_jobs, jobs_in}
use Rattle.pc_threads.proofs.DoneLaws.{done_then, filled_closes, filled_join, works_close, works_more}

-- the others stay fresh if one is taken out
pub fresh_without : (sessions : List Sitter) (place : ℕ) → All IsFresh sessions → All IsFresh (remove sessions place)
fresh_without sessions place fresh =
    All-append IsFresh (take place sessions) (drop (suc place) sessions) (All-take IsFresh place sessions fresh) (All-drop IsFresh (suc place) sessions fresh)

-- the same with the next of some works
pub work_next : (st : Setting) (works : List ClientTask) (i : ℕ) (work : ClientTask) (given_up next : ℕ) (first between last : Sitter) → i < length works → work ≡ get_or works i work
    → HasDone (AreDone st (take i works)) (flat_map jobs_in (take i works)) given_up first between → HasDone (IsTaskDone st work) (jobs_in work) next between last
    → HasDone (AreDone st (take (i + 1) works)) (flat_map jobs_in (take (i + 1) works)) (given_up + next) first last
work_next st works i work given_up next first between last low is before now =
    let front : List ClientTask = take i works in
    let longer : take (i + 1) works ≡ front ++ work ∷ [] = take_more works i work low ∙ ap (λ (w : ClientTask). front ++ w ∷ []) (sym is) in
    let jobs : flat_map jobs_in (front ++ work ∷ []) ≡ flat_map jobs_in front ++ jobs_in work =
    flat_map-append jobs_in front (work ∷ []) ∙ ap (λ (js : List Job). flat_map jobs_in front ++ js) (append-nil (jobs_in work)) in
    subst (λ (ws : List ClientTask). HasDone (AreDone st ws) (flat_map jobs_in ws) (given_up + next) first last) (sym longer)
    (subst (λ (js : List Job). HasDone (AreDone st (front ++ work ∷ [])) js (given_up + next) first last) (sym jobs)
    (done_then (AreDone st front) (IsTaskDone st work) (AreDone st (front ++ work ∷ [])) (works_close st front) (works_more st front work) (flat_map jobs_in front) (jobs_in work) given_up next first between last before now))

-- one client more
pub worked_more : (st : Setting) (clients : List Client) (given_up : ℕ) (sessions : List Sitter) (client : Client) (own : ℕ) (session : Sitter) → HaveWorked st clients given_up sessions → HasWorked st client own session
    → HaveWorked st (clients ++ client ∷ []) (given_up + own) (sessions ++ session ∷ [])
worked_more st [] given_up [] client own session none has = (own, 0, omega (arith, none), has, refl)
worked_more st (c ∷ clients) given_up (s ∷ sessions) client own session have has =
    (have.0, have.1 + own, omega (arith, have.2), have.3, worked_more st clients have.1 sessions client own session have.4 has)
worked_more st [] given_up (s ∷ sessions) client own session have has = absurd have
worked_more st (c ∷ clients) given_up [] client own session have has = absurd have

-- the clients of two workers
pub both_worked : (st : Setting) (clients : List Client) (given_up : ℕ) (sessions : List Sitter) (others : List Client) (more : ℕ) (behind : List Sitter) → HaveWorked st clients given_up sessions → HaveWorked st others more behind
    → HaveWorked st (clients ++ others) (given_up + more) (sessions ++ behind)
both_worked st [] given_up [] others more behind none have = subst (λ n. HaveWorked st others n behind) (omega (arith, none)) have
both_worked st (c ∷ clients) given_up (s ∷ sessions) others more behind a b =
    (a.0, a.1 + more, omega (arith, a.2), a.3, both_worked st clients a.1 sessions others more behind a.4 b)
both_worked st [] given_up (s ∷ sessions) others more behind a b = absurd a
both_worked st (c ∷ clients) given_up [] others more behind a b = absurd a

-- the same with the next transaction of a fill
pub fill_next : (st : Setting) (fill : Fill) (number given_up next : ℕ) (first between last : Sitter) → HasDone (AreFillsTried st (first_jobs fill number)) (first_jobs fill number) given_up first between
    → HasDone (AreFillsTried st (job_of fill number ∷ [])) (job_of fill number ∷ []) next between last
    → HasDone (AreFillsTried st (first_jobs fill (number + 1))) (first_jobs fill (number + 1)) (given_up + next) first last
fill_next st fill number given_up next first between last before now =
    let more : suc number ≡ number + 1 = omega arith in
    let jobs : List Job = first_jobs fill number in
    let one : List Job = job_of fill number ∷ [] in
    subst (λ n. HasDone (AreFillsTried st (first_jobs fill n)) (first_jobs fill n) (given_up + next) first last) more
    (done_then (AreFillsTried st jobs) (AreFillsTried st one) (AreFillsTried st (jobs ++ one)) (filled_closes st jobs) (filled_join st jobs one) jobs one given_up next first between last before now)

-- one more of some items that have clients goes to those that were iterated over
pub over_one : {X : Type 0} (f : X → Client) (clients : List Client) (x : X) (rest all : List X) (whole : List Client) → all ≡ x ∷ rest → clients ++ map f all ≡ whole → (clients ++ f x ∷ []) ++ map f rest ≡ whole
over_one f clients x rest all whole is was = append_assoc clients (f x ∷ []) (map f rest) ∙ ap (λ xs. clients ++ map f xs) (sym is) ∙ was

pub over_some : {X : Type 0} (f : X → List Client) (clients : List Client) (x : X) (rest all : List X) (whole : List Client) → all ≡ x ∷ rest → clients ++ clients_in (map f all) ≡ whole
    → (clients ++ f x) ++ clients_in (map f rest) ≡ whole
over_some f clients x rest all whole is was = append_assoc clients (f x) (clients_in (map f rest)) ∙ ap (λ xs. clients ++ clients_in (map f xs)) (sym is) ∙ was
