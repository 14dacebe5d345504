mod Listings
mod Checks
mod Findings
