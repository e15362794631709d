use Rattle.std.proofs.Common.{[], subst}
use Rattle.xs_gram.specs.Grammar.{Grammar}
use Rattle.xs_cert_laws.specs.Certificates.{IsHalf}
use Rattle.xs_cert.proofs.proving.prove.Goals as goal

pub returns-clause-proof : goal.returns-clause-proof
returns-clause-proof c =
    let w = c.in_ok-certificate.ensures in
    record {
      is = record {
        text = w.text_half;
        xml = w.xml_half;
        is_text = subst (λ (g : Grammar). IsHalf g w.text_half []) c.gram.ensures w.text_whole;
        is_xml = subst (λ (g : Grammar). IsHalf g w.xml_half []) c.gram-2.ensures w.xml_whole;
        is = w.is;
      };
      text = w.text_exact;
      xml = w.xml_exact;
    }
