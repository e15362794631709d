pub mod Blocks
pub mod Certificates
pub mod Exact
pub mod Laws
pub mod Alike
-- what other crates' contracts cite
pub use Rattle.xs_cert_laws.specs.Blocks.{AreContents, AreCutNets, AreRuleNets, ShowsApart, for_cut, for_groups, for_rules}
pub use Rattle.xs_cert_laws.specs.Certificates.{IsBadAt, IsCertificate, between, cut_heads, one_fence, rule_heads, share_line}
pub use Rattle.xs_cert_laws.specs.Exact.{IsProof}
