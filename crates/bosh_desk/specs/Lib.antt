pub mod SiteFaults
