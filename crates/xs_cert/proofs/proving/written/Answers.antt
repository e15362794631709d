use Rattle.xs_cert_laws.specs.Certificates.{half_lines}
use Rattle.xs_cert.proofs.Adding.{adds_whole}
use Rattle.xs_cert.proofs.proving.written.Goals as goal

pub returns : goal.returns
returns c =
    let text = c.in_ok-write_half.ensures in
    let xml = c.in_ok-write_half-2.ensures in
    record {
      text_half = text.half;
      xml_half = xml.half;
      text_whole = text.whole;
      xml_whole = xml.whole;
      text_exact = text.exact;
      xml_exact = xml.exact;
      is = adds_whole (half_lines text.half) (half_lines xml.half) c.new-writer.ensures c.in_ok-extend.ensures.ok text.adds c.in_ok-extend-2.ensures.ok xml.adds c.in_ok-extend-3.ensures.ok;
    }
