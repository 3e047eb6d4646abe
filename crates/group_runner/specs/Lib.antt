pub mod EvidenceView
pub mod Findings
pub mod Marks
pub mod MembersTold
pub mod Places
pub mod Told
