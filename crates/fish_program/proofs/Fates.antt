-- How a script that was read and the run of it make an end.
use Rattle.std.proofs.Common.{◌≡◌, ℕ, inl, inr, List, [], append-nil, ap, refl, sym, subst, ◌∙◌}
use Rattle.std.specs.Prelude.{Bool, Option, Some, None, IfSome, IsSome}
use Rattle.fish_disk.specs.declared.disk.Disk.{Ghosts as Disks}
use Rattle.fish_outside.specs.Content.{Files, Gained, SameFiles}
use Rattle.fish_recover.specs.declared.opened.Opened.{Opened}
use Rattle.fish_recover.specs.declared.refusal.Asked.{Asked}
use Rattle.fish_recover.specs.declared.refusal.OpenRefusal.{OpenRefusal}
use Rattle.fish_recover.specs.declared.refusal.OpenRefusal.TheVariants as opening
use Rattle.fish_rule.specs.declared.close.Remains.{Remains}
use Rattle.fish_run.specs.Faults.{FaultCounts, HasRunCause, IsRunUndamaged}
use Rattle.fish_run.specs.Ran.{IsRunLost, IsRunStopped, IsRunWhole}
use Rattle.fish_run.specs.declared.fault.RunFault.{RunFault}
use Rattle.fish_run.specs.declared.fault.RunFault.TheVariants as ran
use Rattle.fish_run.specs.declared.running.Ran.{Ran}
use Rattle.fish_script.specs.declared.script.Block.{Block}
use Rattle.fish_program.specs.Faults.{open_fault}
use Rattle.fish_program.specs.within.Faults.{ran_fault}
use Rattle.fish_program.specs.Outcome.{DidNothing, EndsScript}
use Rattle.fish_program.specs.Runs.{HasScript, IsLeft, IsStoppedRun}
use Rattle.fish_program.specs.Stores.{IsUnopened, Opens}
use Rattle.fish_program.specs.declared.fault.Fault.{Fault}
use Rattle.fish_program.specs.declared.fault.Fault.TheVariants as fault
use Rattle.fish_program.specs.declared.outcome.Outcome.{Outcome}

-- what is so of files that are still told was so of them before
pub still : (P : Files → Type 0) (old new : Option Files) → SameFiles old new → IfSome old P → IfSome new P
still P old None same h = tt
still P None (Some files) same h = absurd cc
still P (Some before) (Some files) same h = let is : before ≡ files = cc in subst P is h

-- a script that was read is that of the file also after its run
pub script_still : (file : List ℕ) (old new : Option Files) (script : List Block) → SameFiles old new
    → HasScript file old script → HasScript file new script
script_still file old new script same h = record {
  text = h.text;
  of_file = still (λ files. files file ≡ Some h.text) old new same h.of_file;
  is = h.is;
}

-- an output that wasn't touched gained nothing
pub gained_nil : (x : Option (List ℕ)) → Gained x x []
gained_nil None = tt
gained_nil (Some a) = ap Some (append-nil a)

-- ---- faults

-- the fault with which a script's run ended, by that of the whole
abbrev pub ran_of : Fault → Option RunFault
ran_of fault.Input = Some ran.Input
ran_of fault.Output = Some ran.Output
ran_of fault.Memory = Some ran.Memory
ran_of fault.Disk = Some ran.Disk
ran_of (fault.Store (opening.Damaged n)) = Some (ran.Damaged n)
ran_of f = None

-- it is told by it
pub ran_back : (why : Option RunFault) (f : Fault) → ran_fault why ≡ f → why ≡ ran_of f
ran_back None f is = ap ran_of is
ran_back (Some ran.Input) f is = ap ran_of is
ran_back (Some ran.Output) f is = ap ran_of is
ran_back (Some ran.Memory) f is = ap ran_of is
ran_back (Some ran.Disk) f is = ap ran_of is
ran_back (Some (ran.Damaged n)) f is = ap ran_of is

-- what is so of the fault with which a script's run ended
pub fate_of : (P : RunFault → Type 0) (why : Option RunFault) (f : RunFault) → why ≡ Some f → IfSome why P → P f
fate_of P why f is h = (let k : IfSome (Some f) P = subst (λ (z : Option RunFault). IfSome z P) is h in k)

-- it is no damage where the disk's content is told
pub undamaged : (content : Option (List ℕ)) (a b : FaultCounts) (why : Option RunFault) → IfSome why (HasRunCause content a b)
    → IsSome content → IfSome why IsRunUndamaged
undamaged content a b None h told = tt
undamaged content a b (Some f) h told = h.whole told

-- ---- an end

module _ {D : Type 0} (disks : Disks D) (disk mid disk' : D) (asked : Asked) (told : Option Files) (script : List Block)
    (old new : Option (List ℕ))
    (out : Outcome) where
  -- no store was opened
  pub refused_end : (e : OpenRefusal) → IsUnopened disks disk disk' asked e → DidNothing old new out
      → EndsScript disks disk disk' asked told script old new out (open_fault e)
  refused_end opening.NotAStore none nothing = inl (tt, none, nothing)
  refused_end (opening.Damaged n) none nothing = inl (tt, none, nothing)
  refused_end (opening.ShapeDiffers kept other) none nothing = inl (tt, none, nothing)
  refused_end opening.DiskFault none nothing = inl (none, nothing)
  refused_end opening.OutOfMemory none nothing = inl (none, nothing)

  -- what a run of a script ensures, with the refusals and the log of an outcome
  pub record Went (o : Opened) (fault_of : Option RunFault) : Type 0 where
    pub opens : Opens disks disk mid disk' asked o
    pub report : out.report.items ≡ []
    pub whole : fault_of ≡ None → (log : Remains) × (out.remains ≡ Some log)
        × IsRunWhole disks mid disk' o told script log old new out.refused
    pub stopped : (why : RunFault) → fault_of ≡ Some why → (log : Remains) → out.remains ≡ Some log
        → IsRunStopped disks mid disk' o told script log old new out.refused why
    pub lost : out.remains ≡ None → (fault_of ≡ Some ran.Memory)
        × IsRunLost disks mid disk' o told script old new out.refused
    pub damaged : IsSome (disks.content disk') → IfSome fault_of IsRunUndamaged

  -- the log that a stopped run left, or that it was lost
  left_of : (o : Opened) (why : RunFault) (remains : Option Remains)
      → ((log : Remains) → remains ≡ Some log
      → IsRunStopped disks mid disk' o told script log old new out.refused why)
      → (remains ≡ None → (Some why ≡ Some ran.Memory) × IsRunLost disks mid disk' o told script old new out.refused)
      → IsLeft disks mid disk' o told script old new out.refused why remains
  left_of o why (Some log) stopped lost = stopped log refl
  left_of o why None stopped lost =
      let gone = lost refl in
      let both : Some why ≡ Some ran.Memory = gone.0 in
      let memory : why ≡ ran.Memory = cc in (memory, gone.1)

  -- a run that this fault stopped
  stopped_end : (o : Opened) (why : RunFault) → Went o (Some why)
      → IsStoppedRun disks disk disk' asked told script old new why out
  stopped_end o why went = record {
    opened = o;
    mid = mid;
    opens = went.opens;
    report = went.report;
    left = left_of o why out.remains (went.stopped why refl) went.lost;
  }

  -- so it ends
  pub run_end : (o : Opened) (why : Option RunFault) → Went o why
      → EndsScript disks disk disk' asked told script old new out (ran_fault why)
  run_end o None went =
      let whole = went.whole refl in record {
        opened = o;
        mid = mid;
        opens = went.opens;
        report = went.report;
        log = whole.0;
        remains = whole.1;
        whole = whole.2;
      }
  run_end o (Some ran.Input) went = stopped_end o ran.Input went
  run_end o (Some ran.Output) went = stopped_end o ran.Output went
  run_end o (Some ran.Memory) went = inr (stopped_end o ran.Memory went)
  run_end o (Some ran.Disk) went = inr (stopped_end o ran.Disk went)
  run_end o (Some (ran.Damaged n)) went =
      inr (n, refl, record { stopped = stopped_end o (ran.Damaged n) went; no_content = went.damaged })

  -- what the run ensures is so of an outcome that has its parts
  pub went_as : (o : Opened) (r : Ran) → Opens disks disk mid disk' asked o
      → out.report.items ≡ [] → out.refused ≡ r.refused → out.remains ≡ r.remains
      → (r.fault ≡ None → (log : Remains) × (r.remains ≡ Some log)
      × IsRunWhole disks mid disk' o told script log old new r.refused)
      → ((why : RunFault) → r.fault ≡ Some why → (log : Remains) → r.remains ≡ Some log
      → IsRunStopped disks mid disk' o told script log old new r.refused why)
      → (r.remains ≡ None → (r.fault ≡ Some ran.Memory) × IsRunLost disks mid disk' o told script old new r.refused)
      → (IsSome (disks.content disk') → IfSome r.fault IsRunUndamaged)
      → Went o r.fault
  went_as o r opens report refused remains whole stopped lost damaged = record {
    opens = opens;
    report = report;
    whole = λ none. let all = whole none in (
      all.0,
      remains ∙ all.1,
      subst (λ (x : Bool). IsRunWhole disks mid disk' o told script all.0 old new x) (sym refused) all.2,
    );
    stopped = λ why some log is.
        subst (λ (x : Bool). IsRunStopped disks mid disk' o told script log old new x why) (sym refused)
        (stopped why some log (sym remains ∙ is));
    lost = λ is. let all = lost (sym remains ∙ is) in (
      all.0,
      subst (λ (x : Bool). IsRunLost disks mid disk' o told script old new x) (sym refused) all.1,
    );
    damaged = damaged;
  }
