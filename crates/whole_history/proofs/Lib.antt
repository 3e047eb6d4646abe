mod Acceptance
mod ReportDrafts
mod TraceDrafts
mod Walking
