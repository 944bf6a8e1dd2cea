-- How the control pass gives out a lane to a new pass, and takes in what that pass knows.
use Rattle.std.specs.Prelude.{ℕ, ◌≡◌, ◌≤◌, List, [], ◌∷◌, ◌++◌, max, Option, Some, None}
use Rattle.std.proofs.Math.Decide.{ℕ_discrete}
use Rattle.fish_layout.specs.Cleared.{choose}
use Rattle.fish_rule.specs.SpaceSteps.{ticked}
use Rattle.fish_rule.specs.Views.{Among}
use Rattle.fish_rule.specs.declared.view.Clock.{Clock}
use Rattle.fish_rule.specs.declared.view.Epoch.TheVariants.{Out}
use Rattle.fish_rule.specs.declared.view.Learned.{Learned}
use Rattle.fish_rule.specs.declared.view.Own.{Own}
use Rattle.fish_rule.specs.declared.view.Shut.{Shut}
use Rattle.fish_rule.specs.declared.view.View.{View}

-- nothing done yet
abbrev pub fresh : Clock
fresh = record { steps = 0; loads = 0; notes = [] }

-- ---- split

-- the control pass has lane l and nothing in flight
pub record CanSplitPass (v : View) (l : ℕ) : Type 0 where
  pub control : v.lane ≡ 1
  pub above : 2 ≤ l
  pub below : l ≤ 16
  pub here : ¬ Among l v.out
  pub idle : v.flight ≡ None

-- the records of one lane
abbrev pub of_lane : ℕ → List Own → List Own
of_lane l [] = []
of_lane l (o ∷ own) = choose (ℕ_discrete o.lane l) (o ∷ of_lane l own) (of_lane l own)

-- those of all other lanes
abbrev pub off_lane : ℕ → List Own → List Own
off_lane l [] = []
off_lane l (o ∷ own) = choose (ℕ_discrete o.lane l) (off_lane l own) (o ∷ off_lane l own)

-- the control pass without lane l
abbrev pub split_left : ℕ → View → View
split_left l v = record v { out = l ∷ v.out; own = off_lane l v.own; clock = ticked v.clock }

-- the new pass: it has lane l with its records, and knows what the control pass knew
abbrev pub split_right : ℕ → View → View
split_right l v = record {
  about = v.about;
  lane = l;
  out = [];
  shut = v.shut;
  flight = None;
  epoch = Out;
  rows = [];
  control_words = [];
  round = None;
  tail = None;
  own = of_lane l v.own;
  learned = v.learned;
  clock = fresh;
}

-- ---- join

-- the other pass's lane is out, and it has nothing in flight and isn't entered
pub record CanJoinPass (v u : View) : Type 0 where
  pub control : v.lane ≡ 1
  pub above : 2 ≤ u.lane
  pub out : Among u.lane v.out
  pub idle : u.flight ≡ None
  pub outside : u.epoch ≡ Out

-- the lanes without l
abbrev pub without : ℕ → List ℕ → List ℕ
without l [] = []
without l (x ∷ out) = choose (ℕ_discrete x l) (without l out) (x ∷ without l out)

-- what either learned
abbrev pub learned_both : Learned → Learned → Learned
learned_both a b = record {
  count = max a.count b.count;
  settled = max a.settled b.settled;
  version = max a.version b.version;
  words = a.words ++ b.words;
  found = a.found ++ b.found;
  known = a.known ++ b.known;
  records = a.records ++ b.records;
  nodes = a.nodes ++ b.nodes;
  least_previous = a.least_previous ++ b.least_previous;
  least_heads = a.least_heads ++ b.least_heads;
  gaps = a.gaps ++ b.gaps;
  labels = a.labels ++ b.labels;
  unended = a.unended ++ b.unended;
  opens = a.opens ++ b.opens;
}

-- the own claim that shut the pass, where there is one, else the other's
abbrev pub first_shut : Option Shut → Option Shut → Option Shut
first_shut None other = other
first_shut (Some s) other = Some s

-- the control pass with the other's lane and all that it knew
abbrev pub join_both : View → View → View
join_both v u = record v {
  out = without u.lane v.out;
  shut = first_shut v.shut u.shut;
  tail = None;
  own = v.own ++ u.own;
  learned = learned_both v.learned u.learned;
  clock = ticked v.clock;
}

-- nothing learned
abbrev pub unlearned : Learned
unlearned = record {
  count = 0;
  settled = 0;
  version = 0;
  words = [];
  found = [];
  known = [];
  records = [];
  nodes = [];
  least_previous = [];
  least_heads = [];
  gaps = [];
  labels = [];
  unended = [];
  opens = [];
}

-- the view of a pass that was joined
abbrev pub spent : View
spent = record {
  about = record {
    number = 0;
    line = 0;
    end = 0;
    buckets = 0;
    version = 0;
    heads = record { marker = record {}; value = [] };
    rows = record { marker = record {}; value = [] };
  };
  lane = 0;
  out = [];
  shut = None;
  flight = None;
  epoch = Out;
  rows = [];
  control_words = [];
  round = None;
  tail = None;
  own = [];
  learned = unlearned;
  clock = fresh;
}
