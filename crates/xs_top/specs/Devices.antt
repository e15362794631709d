-- What is known of the devices of a run, before and after it, and how often they had failed.
use Rattle.std.specs.Prelude.{◌≡◌, ℕ, List}
use Rattle.std.specs.declared.option.Option.{Option}
use Rattle.xs_io.specs.Shown.{Files}

-- the shelf
pub record Shelves : Type 0 where
  pub files : Files
  pub faults_before : ℕ
  pub faults_now : ℕ
  pub name_before : List ℕ → ℕ
  pub name_now : List ℕ → ℕ

abbrev pub shelves_of : {H : Type 0} → (H → Files) → (H → ℕ) → (H → List ℕ → ℕ) → H → H → Shelves
shelves_of files faults name_faults shelf shelf' = record {
  files = files shelf;
  faults_before = faults shelf;
  faults_now = faults shelf';
  name_before = name_faults shelf;
  name_now = name_faults shelf';
}

-- the input
pub record Input : Type 0 where
  pub left_before : Option (List ℕ)
  pub left_now : Option (List ℕ)
  pub faults_before : ℕ
  pub faults_now : ℕ

abbrev pub input_of : {S : Type 0} → (S → Option (List ℕ)) → (S → ℕ) → S → S → Input
input_of left faults input input' = record { left_before = left input; left_now = left input'; faults_before = faults input; faults_now = faults input' }

-- a sink
pub record Output : Type 0 where
  pub taken_before : Option (List ℕ)
  pub taken_now : Option (List ℕ)
  pub faults_before : ℕ
  pub faults_now : ℕ

abbrev pub output_of : {K : Type 0} → (K → Option (List ℕ)) → (K → ℕ) → K → K → Output
output_of taken faults sink sink' = record { taken_before = taken sink; taken_now = taken sink'; faults_before = faults sink; faults_now = faults sink' }

-- it took nothing, and failed at nothing
pub record TookNothing (o : Output) : Type 0 where
  pub taken : o.taken_now ≡ o.taken_before
  pub faults : o.faults_now ≡ o.faults_before

-- nothing was read of the input
pub record ReadNothing (i : Input) : Type 0 where
  pub left : i.left_now ≡ i.left_before
  pub faults : i.faults_now ≡ i.faults_before

-- the words and all devices of a run
pub record Run : Type 0 where
  pub words : List (List ℕ)
  pub shelf : Shelves
  pub input : Input
  pub out : Output
  pub notes : Output

abbrev pub run_of : List (List ℕ) → Shelves → Input → Output → Output → Run
run_of words shelf input out notes = record { words = words; shelf = shelf; input = input; out = out; notes = notes }
