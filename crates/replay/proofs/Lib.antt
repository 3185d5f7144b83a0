mod Fronts
mod Logs
mod Lending
