-- Text of which some of the front was appended.
use Rattle.std.proofs.Common.{◌≡◌, ◌≤◌, ℕ, List, ◌++◌, length, Result, Ok, Err, OnErr, sym, ap, ◌∙◌, arith, append_assoc, length-append}
use Rattle.xs_cert_lines.specs.Pages.{AppendsFront}

pub on_err : {T E P : Type 0} (r : Result T E) → P → OnErr r P
on_err (Ok x) p = tt
on_err (Err e) p = p

-- none of it
pub front_none : (old new text : List ℕ) → new ≡ old → AppendsFront old new text
front_none old new text same = record { left = text; is = ap (λ x. x ++ text) same; order = omega (arith, ap length same) }

-- nothing of what follows it
pub front_more : (old new text more : List ℕ) → AppendsFront old new text → AppendsFront old new (text ++ more)
front_more old new text more f = record {
  left = f.left ++ more;
  is = sym (append_assoc new f.left more) ∙ ap (λ x. x ++ more) f.is ∙ append_assoc old text more;
  order = f.order;
}

-- all of what stands before it
pub front_on : (old mid new text more : List ℕ) → mid ≡ old ++ text → AppendsFront mid new more → AppendsFront old new (text ++ more)
front_on old mid new text more is f = record {
  left = f.left;
  is = f.is ∙ ap (λ x. x ++ more) is ∙ append_assoc old text more;
  order = omega (arith, f.order, ap length is, length-append old text);
}

-- where the rest of the text would come after a page
pub front_left : (old out new page text rest : List ℕ) → (out ++ page) ++ rest ≡ old ++ text → length old ≤ length out → AppendsFront out new (page ++ rest) → AppendsFront old new text
front_left old out new page text rest is order f = record {
  left = f.left;
  is = f.is ∙ sym (append_assoc out page rest) ∙ is;
  order = omega (arith, f.order, order);
}
