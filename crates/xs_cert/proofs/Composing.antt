-- Readings of blocks, one after another.
use Rattle.std.proofs.Common.{◌≡◌, inr, ℕ, ◌≤◌, List, [], ◌∷◌, ◌++◌, length, map, refl, sym, ap, subst, ◌∙◌, arith, append_assoc, append-nil, length-append, Result, Ok, Err, IfOk}
use Rattle.xs_class.specs.declared.memory.Memory.{Memory}
use Rattle.std.specs.Prelude.{flat_map}
use Rattle.std.proofs.lemmas.List.{map-append}
use Rattle.std.proofs.lemmas.List.Elements.{All-nil, All-append}
use Rattle.xs_auto.specs.Nests.{Group}
use Rattle.xs_gram.specs.Grammar.{Grammar}
use Rattle.xs_cert_lines.specs.Lines.{Lines}
use Rattle.xs_cert_laws.specs.Blocks.{Head, Block, head, IsRight, block_lines}
use Rattle.xs_cert.specs.declared.place.Place.{Place}
use Rattle.xs_cert.specs.declared.place.Reading.{Reading}
use Rattle.xs_cert.specs.declared.place.Reading.TheVariants.{Whole, Broken}
use Rattle.xs_cert.specs.Ways.{TailWays, LeadsTo, EndsBy, BlockWays}
use Rattle.xs_cert.specs.Readings.{AreRead, AreWhole, AreBroken, IsReading}
use Rattle.xs_cert.proofs.Standing.{past_none, past_then, goes_after, leads_then, leads_ends}

pub blocks-append : (xs ys : List Block) → flat_map block_lines (xs ++ ys) ≡ flat_map block_lines xs ++ flat_map block_lines ys
blocks-append [] ys = refl
blocks-append (x ∷ xs) ys = ap (λ (z : Lines). block_lines x ++ z) (blocks-append xs ys) ∙ sym (append_assoc (block_lines x) (flat_map block_lines xs) (flat_map block_lines ys))

module _ {g : Grammar} {nest : List Group} {R : ℕ → ℕ → Type 0} where
  pub read_then : {hs ks more : List Head} {ls ms : Lines} → AreRead g nest R hs [] ls → AreRead g nest R ks more ms → AreRead g nest R (hs ++ ks) more (ls ++ ms)
  read_then {hs} {ks} {more} {ls} {ms} a b = record {
    blocks = a.blocks ++ b.blocks;
    order = ap (λ (z : List Head). z ++ more) (map-append head a.blocks b.blocks) ∙ append_assoc (map head a.blocks) (map head b.blocks) more ∙ ap (λ (z : List Head). map head a.blocks ++ z) b.order ∙ ap (λ (z : List Head). z ++ ks) (sym (append-nil (map head a.blocks)) ∙ a.order);
    right = All-append (IsRight g nest R) a.blocks b.blocks a.right b.right;
    lines = ap (λ (z : Lines). z ++ ms) a.lines ∙ ap (λ (z : Lines). flat_map block_lines a.blocks ++ z) b.lines ∙ sym (blocks-append a.blocks b.blocks);
  }

  pub read_more : {hs more : List Head} {ls : Lines} (ks : List Head) → AreRead g nest R hs more ls → AreRead g nest R (hs ++ ks) (more ++ ks) ls
  read_more {hs} {more} ks a = record {
    blocks = a.blocks;
    order = sym (append_assoc (map head a.blocks) more ks) ∙ ap (λ (z : List Head). z ++ ks) a.order;
    right = a.right;
    lines = a.lines;
  }

  module _ {bytes : List ℕ} where
    pub whole_none : (p : Place) → p.byte ≤ length bytes → AreWhole g nest R bytes p [] p
    whole_none p h = record {
      lines = [];
      past = past_none p h;
      read = record { blocks = []; order = refl; right = All-nil (IsRight g nest R); lines = refl };
      leads = λ tail later j a. inr (j, refl, a);
    }

    pub whole_then : {p q r : Place} {hs ks : List Head} → AreWhole g nest R bytes p hs q → AreWhole g nest R bytes q ks r → AreWhole g nest R bytes p (hs ++ ks) r
    whole_then {p} {q} {r} {hs} {ks} a b = record {
      lines = a.lines ++ b.lines;
      past = past_then a.past b.past;
      read = read_then a.read b.read;
      leads = λ tail later. subst (λ (xs : List Head). LeadsTo bytes p (BlockWays g nest R (TailWays tail) xs) r (BlockWays g nest R (TailWays tail) later)) (sym (append_assoc hs ks later))
          (leads_then p q r (BlockWays g nest R (TailWays tail) (hs ++ (ks ++ later))) (BlockWays g nest R (TailWays tail) (ks ++ later)) (BlockWays g nest R (TailWays tail) later) (a.leads tail (ks ++ later)) (b.leads tail later) (omega (arith, b.past.count)));
    }

    pub whole_broken : {p q : Place} {hs ks : List Head} {most : ℕ} → AreWhole g nest R bytes p hs q → AreBroken g nest R bytes q ks most → AreBroken g nest R bytes p (hs ++ ks) most
    whole_broken {p} {q} {hs} {ks} {most} a b = record {
      lines = a.lines ++ b.lines;
      more = b.more;
      stand = goes_after b.lines a.past.from b.stand;
      count = omega (arith, a.past.count, b.count, length-append a.lines b.lines);
      read = read_then a.read b.read;
      ends = λ tail later. subst (λ (xs : List Head). EndsBy bytes p (BlockWays g nest R (TailWays tail) xs) most) (sym (append_assoc hs ks later))
          (leads_ends p q (BlockWays g nest R (TailWays tail) (hs ++ (ks ++ later))) (BlockWays g nest R (TailWays tail) (ks ++ later)) most (a.leads tail (ks ++ later)) (b.ends tail later) (omega (arith, b.count)));
    }

    pub broken_then : {p : Place} {hs : List Head} {most : ℕ} (ks : List Head) → AreBroken g nest R bytes p hs most → AreBroken g nest R bytes p (hs ++ ks) most
    broken_then {p} {hs} {most} ks a = record {
      lines = a.lines;
      more = a.more ++ ks;
      stand = a.stand;
      count = a.count;
      read = read_more ks a.read;
      ends = λ tail later. subst (λ (xs : List Head). EndsBy bytes p (BlockWays g nest R (TailWays tail) xs) most) (sym (append_assoc hs ks later)) (a.ends tail (ks ++ later));
    }

    -- what was broken off stays so with heads that come later
    pub broken_as : {p : Place} {hs all : List Head} {most : ℕ} (ks : List Head) → AreBroken g nest R bytes p hs most → hs ++ ks ≡ all → AreBroken g nest R bytes p all most
    broken_as {p} {hs} {all} {most} ks a e = subst (λ (xs : List Head). AreBroken g nest R bytes p xs most) e (broken_then ks a)

    pub whole_as : {p q : Place} {hs all : List Head} → AreWhole g nest R bytes p hs q → hs ≡ all → AreWhole g nest R bytes p all q
    whole_as {p} {q} a e = subst (λ (xs : List Head). AreWhole g nest R bytes p xs q) e a

    -- groups, rules and cuts in turn
    pub three_broken : {p : Place} {gs : List Head} (rs cs : List Head) {most : ℕ} → AreBroken g nest R bytes p gs most → AreBroken g nest R bytes p (gs ++ (rs ++ cs)) most
    three_broken rs cs a = broken_then (rs ++ cs) a

    pub two_broken : {p q : Place} {gs rs : List Head} (cs : List Head) {most : ℕ} → AreWhole g nest R bytes p gs q → AreBroken g nest R bytes q rs most → AreBroken g nest R bytes p (gs ++ (rs ++ cs)) most
    two_broken cs a b = whole_broken a (broken_then cs b)

    pub one_reading : {p q r : Place} {gs rs : List Head} (cs : List Head) → AreWhole g nest R bytes p gs q → AreWhole g nest R bytes q rs r → (o : Result Reading Memory) → IfOk o (IsReading g nest R bytes r cs) → IfOk o (IsReading g nest R bytes p (gs ++ (rs ++ cs)))
    one_reading {p} {q} {r} {gs} {rs} cs a b (Ok o) c = whole_reading o (whole_rules o c)
      where
        whole_rules : (o : Reading) → IsReading g nest R bytes r cs o → IsReading g nest R bytes q (rs ++ cs) o
        whole_rules (Whole s) w = whole_then b w
        whole_rules (Broken most) w = whole_broken b w

        whole_reading : (o : Reading) → IsReading g nest R bytes q (rs ++ cs) o → IsReading g nest R bytes p (gs ++ (rs ++ cs)) o
        whole_reading (Whole s) w = whole_then a w
        whole_reading (Broken most) w = whole_broken a w
    one_reading cs a b (Err m) c = tt
